-- The class of a token in a tree depends only on the token and on the tokens before it.
use Rattle.std.proofs.Common.{◌≡◌, suc, true, List, [], ◌∷◌, ◌++◌, length, Some, refl, sym, ap, ap₂, subst, ◌∙◌, append_assoc, length-append, inl, inr, ◌⊎◌}
use Rattle.std.proofs.Common.{arith}
use Rattle.graphql_core.specs.{Token, Class, Expr, Many, ParseTree, Grammar, leaves, peek, Fits, fits_nothing, fits_leaf, fits_both, fits_first, fits_second}
use Rattle.graphql_core.specs.{fits_stop, fits_more, fits_node, decides, is_ll1, choose, Takes, takes_nothing, takes_leaf, takes_both}
use Rattle.graphql_core.specs.{takes_first, takes_second, takes_stop, takes_more, takes_node, classes, ReadsAlike}
use Rattle.graphql_core.proofs.grammar.Sound.{takes-fits, takes-leaves, takes-local}
use Rattle.graphql_core.proofs.grammar.Deterministic.{same-take, left_right}
use Rattle.graphql_core.proofs.grammar.FirstFault.{reads_all}

-- ---- lists

-- of two prefixes of a list, one is a prefix of the other
abbrev pub Fronts : List Token → List Token → List Token → List Token → Type 0
Fronts xs ys ks r = ((z : List Token) × (xs ≡ ks ++ z)) ⊎ ((t : Token) × (l : List Token) × (ks ≡ xs ++ t ∷ l) × (ys ≡ (t ∷ l) ++ r))

fronts-more : (x k : Token) (xs ys ks r : List Token) → x ≡ k → Fronts xs ys ks r → Fronts (x ∷ xs) ys (k ∷ ks) r
fronts-more x k xs ys ks r e (inl p) = inl (p.0, ap₂ (λ (a : Token) (l : List Token). a ∷ l) e p.1)
fronts-more x k xs ys ks r e (inr p) = inr (p.0, p.1, ap₂ (λ (a : Token) (l : List Token). a ∷ l) (sym e) p.2, p.3)

-- equal lists have equal first elements and equal rests
pub head_is : (a b : Token) (l m : List Token) → ◌≡◌ {A = List Token} (a ∷ l) (b ∷ m) → a ≡ b
head_is a b l m e = cc

pub tail_is : (a b : Token) (l m : List Token) → ◌≡◌ {A = List Token} (a ∷ l) (b ∷ m) → l ≡ m
tail_is a b l m e = cc

pub fronts : (xs ys ks r : List Token) → xs ++ ys ≡ ks ++ r → Fronts xs ys ks r
fronts xs ys [] r h = inl (xs, refl)
fronts [] ys (k ∷ ks) r h = inr (k, ks, refl, h)
fronts (x ∷ xs) ys (k ∷ ks) r h = fronts-more x k xs ys ks r (head_is x k (xs ++ ys) (ks ++ r) h) (fronts xs ys ks r (tail_is x k (xs ++ ys) (ks ++ r) h))

pub cancel : (xs ys zs : List Token) → xs ++ ys ≡ xs ++ zs → ys ≡ zs
cancel [] ys zs h = h
cancel (x ∷ xs) ys zs h = cancel xs ys zs (tail_is x x (xs ++ ys) (xs ++ zs) h)

classes-length : (g : Grammar) {e : Expr} {x : ParseTree} → Fits g e x → length (classes g e x) ≡ length (leaves x)
classes-length g fits_nothing = refl
classes-length g (fits_leaf h) = refl
classes-length g (fits_both {a = a} {b = b} {x = x} {y = y} p q) = omega
    (arith, classes-length g p, classes-length g q, length-append (leaves x) (leaves y), length-append (classes g a x) (classes g b y))
classes-length g (fits_first p) = classes-length g p
classes-length g (fits_second p) = classes-length g p
classes-length g fits_stop = refl
classes-length g (fits_more {a = a} {x = x} {y = y} p q) = omega
    (arith, classes-length g p, classes-length g q, length-append (leaves x) (leaves y), length-append (classes g a x) (classes g (Many a) y))
classes-length g (fits_node p c) = classes-length g p

-- ---- two first parts whose tokens begin with the same prefix

-- the common prefix ends within both first parts, or the first parts are equal
abbrev Parts : ParseTree → ParseTree → List Token → List Token → List Token → List Token → List Token → Type 0
Parts x y xs ys ks r s = ((z : List Token) × (w : List Token) × (leaves x ≡ ks ++ z) × (leaves y ≡ ks ++ w)) ⊎
    ((l : List Token) × (x ≡ y) × (ks ≡ leaves x ++ l) × (xs ≡ l ++ r) × (ys ≡ l ++ s))

-- if x ends before the common prefix does, y is x
ends-alike : (g : Grammar) {a : Expr} {ts us ts' us' : List Token} {x y : ParseTree} → Takes g a ts x us → Takes g a ts' y us'
    → (xs ys vs vs' ks r s : List Token) (t : Token) (l : List Token)
    → us ≡ xs ++ vs → us' ≡ ys ++ vs' → ks ≡ leaves x ++ t ∷ l → xs ≡ (t ∷ l) ++ r → leaves y ++ ys ≡ ks ++ s → x ≡ y
ends-alike g {a} {ts} {us} {ts'} {us'} {x} {y} p q xs ys vs vs' ks r s t l eu eu' ek ex ey =
    let w : List Token = t ∷ (l ++ (s ++ vs')) in
    let same : ts' ≡ leaves x ++ w =
    takes-leaves g q ∙ ap (λ (m : List Token). leaves y ++ m) eu' ∙ sym (append_assoc (leaves y) ys vs')
    ∙ ap (λ (m : List Token). m ++ vs') (ey ∙ ap (λ (m : List Token). m ++ s) ek)
    ∙ append_assoc (leaves x ++ t ∷ l) s vs' ∙ append_assoc (leaves x) (t ∷ l) (s ++ vs') in
    let next : peek w ≡ peek us = sym (ap peek (eu ∙ ap (λ (m : List Token). m ++ vs) ex)) in
    (same-take g (subst (λ (m : List Token). Takes g a m x w) (sym same) (takes-local g p w next)) q).0

parts : (g : Grammar) {a : Expr} {ts us ts' us' : List Token} {x y : ParseTree} → Takes g a ts x us → Takes g a ts' y us' → (xs ys vs vs' ks r s : List Token)
    → us ≡ xs ++ vs → us' ≡ ys ++ vs' → leaves x ++ xs ≡ ks ++ r → leaves y ++ ys ≡ ks ++ s → Parts x y xs ys ks r s
parts g {x = x} {y = y} p q xs ys vs vs' ks r s eu eu' ex ey = go (fronts (leaves x) xs ks r ex) (fronts (leaves y) ys ks s ey)
  where
    go : Fronts (leaves x) xs ks r → Fronts (leaves y) ys ks s → Parts x y xs ys ks r s
    go (inl i) (inl j) = inl (i.0, j.0, i.1, j.1)
    go (inr i) j =
        let same = ends-alike g p q xs ys vs vs' ks r s i.0 i.1 eu eu' i.2 i.3 ey in
        inr (
          i.0 ∷ i.1,
          same,
          i.2,
          i.3,
          cancel (leaves x) ys ((i.0 ∷ i.1) ++ s)
              (ap (λ (z : ParseTree). leaves z ++ ys) same ∙ ey ∙ ap (λ (m : List Token). m ++ s) i.2 ∙ append_assoc (leaves x) (i.0 ∷ i.1) s),
        )
    go (inl i) (inr j) =
        let same = sym (ends-alike g q p ys xs vs' vs ks s r j.0 j.1 eu' eu j.2 j.3 ex) in
        inr (
          j.0 ∷ j.1,
          same,
          j.2 ∙ ap (λ (z : ParseTree). leaves z ++ j.0 ∷ j.1) (sym same),
          cancel (leaves y) xs ((j.0 ∷ j.1) ++ r)
              (ap (λ (z : ParseTree). leaves z ++ xs) (sym same) ∙ ex ∙ ap (λ (m : List Token). m ++ r) j.2 ∙ append_assoc (leaves y) (j.0 ∷ j.1) r),
          j.3,
        )

-- ---- the classes

abbrev Alike : List Class → List Class → List Token → Type 0
Alike cx cy ks = (cs : List Class) × (ds : List Class) × (es : List Class) × (cx ≡ cs ++ ds) × (cy ≡ cs ++ es) × (length cs ≡ length ks)

alike-more : (cx cy dx dy : List Class) (ks : List Token) → Alike cx cy ks → Alike (cx ++ dx) (cy ++ dy) ks
alike-more cx cy dx dy ks a = (
  a.0,
  a.1 ++ dx,
  a.2 ++ dy,
  ap (λ (m : List Class). m ++ dx) a.3 ∙ append_assoc a.0 a.1 dx,
  ap (λ (m : List Class). m ++ dy) a.4
      ∙ append_assoc a.0 a.2 dy,
  a.5,
)

alike-after : (cx dx dy : List Class) (ls ks all : List Token) → length cx ≡ length ls → all ≡ ls ++ ks → Alike dx dy ks → Alike (cx ++ dx) (cx ++ dy) all
alike-after cx dx dy ls ks all n e a = (
  cx ++ a.0,
  a.1,
  a.2,
  ap (λ (m : List Class). cx ++ m) a.3 ∙ sym (append_assoc cx a.0 a.1),
  ap (λ (m : List Class). cx ++ m) a.4 ∙ sym (append_assoc cx a.0 a.2),
  omega (arith, length-append cx a.0, length-append ls ks, ap length e, n, a.5),
)

none_alike : (cx cy : List Class) → Alike cx cy []
none_alike cx cy = ([], cx, cy, refl, refl, refl)

-- the next item, if something was taken
next-of : (g : Grammar) {e : Expr} {ts us : List Token} {x : ParseTree} → Takes g e ts x us → (t : Token) (ks r : List Token) → leaves x ≡ (t ∷ ks) ++ r
    → peek ts ≡ Some t
next-of g {us = us} p t ks r h = ap peek (takes-leaves g p ∙ ap (λ (l : List Token). l ++ us) h)

pub classes_alike : (g : Grammar) {e : Expr} {ts : List Token} {x : ParseTree} {us : List Token} {ts' : List Token} {y : ParseTree} {us' : List Token}
    → Takes g e ts x us
    → Takes g e ts' y us'
    → (ks r s : List Token) → leaves x ≡ ks ++ r → leaves y ≡ ks ++ s → Alike (classes g e x) (classes g e y) ks
classes_alike g {e = e} {x = x} {y = y} p q [] r s h k = none_alike (classes g e x) (classes g e y)
classes_alike g takes_nothing q (t ∷ ks) r s h k = absurd cc
classes_alike g (takes_leaf {c = c} p) (takes_leaf q) (t ∷ ks) r s h k = (c ∷ [], [], [], refl, refl, one_long ks r (ap length h))
  where
    one_long : (l m : List Token) → 1 ≡ suc (length (l ++ m)) → 1 ≡ suc (length l)
    one_long l m i = omega (arith, i, length-append l m)
classes_alike g (takes_both {a = a} {b = b} {vs = vs} {x = x} {y = y} p q) (takes_both {vs = vs'} {x = x'} {y = y'} p' q') (t ∷ ks) r s h k =
    elim (parts g p p' (leaves y) (leaves y') vs vs' (t ∷ ks) r s (takes-leaves g q) (takes-leaves g q') h k) [
      | inl i ↦ alike-more (classes g a x) (classes g a x') (classes g b y) (classes g b y') (t ∷ ks) (classes_alike g p p' (t ∷ ks) i.0 i.1 i.2 i.3)
      | inr i ↦ subst (λ (z : ParseTree). Alike (classes g a x ++ classes g b y) (classes g a z ++ classes g b y') (t ∷ ks)) i.1
          (alike-after (classes g a x) (classes g b y) (classes g b y') (leaves x) i.0 (t ∷ ks) (classes-length g (takes-fits g p)) i.2
          (classes_alike g q q' i.0 r s i.3 i.4))
    ]
classes_alike g (takes_first {a = a} {b = b} c p) (takes_first d q) (t ∷ ks) r s h k = classes_alike g p q (t ∷ ks) r s h k
classes_alike g (takes_first {a = a} {b = b} c p) (takes_second d q) (t ∷ ks) r s h k = absurd
    (left_right c (ap (choose g.rows a b) (next-of g p t ks r h ∙ sym (next-of g q t ks s k)) ∙ d))
classes_alike g (takes_second {a = a} {b = b} c p) (takes_first d q) (t ∷ ks) r s h k = absurd
    (left_right d (ap (choose g.rows a b) (next-of g q t ks s k ∙ sym (next-of g p t ks r h)) ∙ c))
classes_alike g (takes_second {a = a} {b = b} c p) (takes_second d q) (t ∷ ks) r s h k = classes_alike g p q (t ∷ ks) r s h k
classes_alike g (takes_stop c) q (t ∷ ks) r s h k = absurd cc
classes_alike g (takes_more c p q) (takes_stop d) (t ∷ ks) r s h k = absurd cc
classes_alike g (takes_more {a = a} {vs = vs} {x = x} {y = y} c p q) (takes_more {vs = vs'} {x = x'} {y = y'} d p' q') (t ∷ ks) r s h k =
    elim (parts g p p' (leaves y) (leaves y') vs vs' (t ∷ ks) r s (takes-leaves g q) (takes-leaves g q') h k) [
      | inl i ↦
          alike-more (classes g a x) (classes g a x') (classes g (Many a) y) (classes g (Many a) y') (t ∷ ks) (classes_alike g p p' (t ∷ ks) i.0 i.1 i.2 i.3)
      | inr i ↦ subst (λ (z : ParseTree). Alike (classes g a x ++ classes g (Many a) y) (classes g a z ++ classes g (Many a) y') (t ∷ ks)) i.1
          (alike-after (classes g a x) (classes g (Many a) y) (classes g (Many a) y') (leaves x) i.0 (t ∷ ks) (classes-length g (takes-fits g p)) i.2
          (classes_alike g q q' i.0 r s i.3 i.4))
    ]
classes_alike g (takes_node p c) (takes_node q d) (t ∷ ks) r s h k = classes_alike g p q (t ∷ ks) r s h k

pub reads_alike : (g : Grammar) → is_ll1 g.rows ≡ true → (e : Expr) → decides g.rows e ≡ true → ReadsAlike g e
reads_alike g ok e d ts us vs x y h k = classes_alike g (reads_all g ok e d (ts ++ us) x h) (reads_all g ok e d (ts ++ vs) y k) ts us vs (sym h.1) (sym k.1)
