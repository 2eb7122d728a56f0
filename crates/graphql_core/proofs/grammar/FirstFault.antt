-- Where the reader stops, what it has read is a prefix of a list, and no list continues with the next item.
use Rattle.std.proofs.Common.{◌≡◌, ℕ, zero, suc, Bool, true, false, ◌&&◌, eqb, List, [], ◌∷◌, ◌++◌, Some, refl, sym, ap, subst, ◌∙◌, append_assoc}
use Rattle.std.proofs.Common.{append-nil, inl, inr}
use Rattle.std.proofs.lemmas.Bool.{and_parts, and_from, or_cases, eqb-true}
use Rattle.graphql_core.specs.{Token, Class, matches, Expr, Empty, One, Then, Either, Many, Sym, ParseTree, Nothing, Leaf, Both, First, Second, Stop, More}
use Rattle.graphql_core.specs.{Node, Row, Grammar, row_at, row, accepts, leaves, peek, Derives, Begins, Ends, Fits, fits_nothing, fits_leaf, fits_both}
use Rattle.graphql_core.specs.{fits_first, fits_second, fits_stop, fits_more, fits_node, first, decides, is_ll1, sample_in, has_samples, has_tree, are_full}
use Rattle.graphql_core.specs.{is_productive, sees, choose, Takes, takes_nothing, takes_leaf, takes_both, takes_first, takes_second, takes_stop, takes_more}
use Rattle.graphql_core.specs.{takes_node, Reason, Unexpected, Improper, RejectedNode, Fails, fails_one, fails_value, fails_before, fails_after, fails_first}
use Rattle.graphql_core.specs.{fails_second, fails_neither, fails_turn, fails_later, fails_node, fails_check, with_tests, unchecked, lax, IsValue}
use Rattle.graphql_core.specs.{IsRejectedBefore}
use Rattle.graphql_core.proofs.grammar.Sound.{takes-fits, takes-leaves, takes-local, same_item}
use Rattle.graphql_core.proofs.grammar.Complete.{complete, some_is}
use Rattle.graphql_core.proofs.grammar.Deterministic.{same-take, take-or_fail}

-- ---- each expression has a tree

pub fits-from_test : (g : Grammar) (e : Expr) (x : ParseTree) → has_tree g e x ≡ true → Fits g e x
fits-from_test g Empty Nothing h = fits_nothing
fits-from_test g (One c) (Leaf t) h = fits_leaf h
fits-from_test g (Then a b) (Both x y) h = let p = and_parts (has_tree g a x) (has_tree g b y) h in fits_both (fits-from_test g a x p.0)
    (fits-from_test g b y p.1)
fits-from_test g (Either a b) (First x) h = fits_first (fits-from_test g a x h)
fits-from_test g (Either a b) (Second y) h = fits_second (fits-from_test g b y h)
fits-from_test g (Many a) Stop h = fits_stop
fits-from_test g (Many a) (More x y) h = let p = and_parts (has_tree g a x) (has_tree g (Many a) y) h in fits_more (fits-from_test g a x p.0)
    (fits-from_test g (Many a) y p.1)
fits-from_test g (Sym k) (Node j x) h =
    let p = and_parts (eqb k j) (has_tree g (row g k).rule x && g.check k x) h in
    let q = and_parts (has_tree g (row g k).rule x) (g.check k x) p.1 in
    subst (λ (i : ℕ). Fits g (Sym k) (Node i x)) (eqb-true k j p.0) (fits_node (fits-from_test g (row g k).rule x q.0) q.1)
fits-from_test g _ _ h = absurd cc

pub samples-at : (g : Grammar) (more : List Row) (k : ℕ) → are_full g more ≡ true → has_samples g (row_at more k).rule ≡ true
samples-at g [] k h = refl
samples-at g (r ∷ more) zero h = (and_parts (has_samples g r.rule) (are_full g more) h).0
samples-at g (r ∷ more) (suc k) h = samples-at g more k (and_parts (has_samples g r.rule) (are_full g more) h).1

abbrev pub HasTree : Grammar → Expr → Type 0
HasTree g e = (x : ParseTree) × Fits g e x

sample-of : (g : Grammar) (c : Class) (ts : List Token) → sample_in ts g c ≡ true → HasTree g (One c)
sample-of g c [] h = absurd cc
sample-of g c (t ∷ ts) h =
    elim (or_cases (accepts g c t) (sample_in ts g c) h) [
      | inl m ↦ (Leaf t, fits_leaf m)
      | inr m ↦ sample-of g c ts m
    ]

pub tree-of : (g : Grammar) → is_productive g ≡ true → (e : Expr) → has_samples g e ≡ true → HasTree g e
tree-of g full Empty d = (Nothing, fits_nothing)
tree-of g full (One c) d = sample-of g c g.samples d
tree-of g full (Then a b) d =
    let d1 = and_parts (has_samples g a) (has_samples g b) d in
    let x = tree-of g full a d1.0 in
    let y = tree-of g full b d1.1 in
    (Both x.0 y.0, fits_both x.1 y.1)
tree-of g full (Either a b) d = let x = tree-of g full a (and_parts (has_samples g a) (has_samples g b) d).0 in (First x.0, fits_first x.1)
tree-of g full (Many a) d = (Stop, fits_stop)
tree-of g full (Sym k) d = (Node k (row g k).least, fits-from_test g (Sym k) (Node k (row g k).least) d)

-- ---- what passes the tests passes weaker ones

abbrev Weaker : Grammar → (Class → Token → Bool) → (ℕ → ParseTree → Bool) → Type 0
Weaker g good check = ((c : Class) (t : Token) → g.good c t ≡ true → good c t ≡ true) × ((k : ℕ) (x : ParseTree) → g.check k x ≡ true → check k x ≡ true)

fits-weaker : (g : Grammar) (good : Class → Token → Bool) (check : ℕ → ParseTree → Bool) → Weaker g good check → {e : Expr} {x : ParseTree} → Fits g e x
    → Fits (with_tests g good check) e x
fits-weaker g good check w fits_nothing = fits_nothing
fits-weaker g good check w (fits_leaf {c = c} {t = t} h) = let p = and_parts (matches c t) (g.good c t) h in fits_leaf
    (and_from (matches c t) (good c t) p.0 (w.0 c t p.1))
fits-weaker g good check w (fits_both p q) = fits_both (fits-weaker g good check w p) (fits-weaker g good check w q)
fits-weaker g good check w (fits_first p) = fits_first (fits-weaker g good check w p)
fits-weaker g good check w (fits_second p) = fits_second (fits-weaker g good check w p)
fits-weaker g good check w fits_stop = fits_stop
fits-weaker g good check w (fits_more p q) = fits_more (fits-weaker g good check w p) (fits-weaker g good check w q)
fits-weaker g good check w (fits_node {k = k} {x = x} p c) = fits_node (fits-weaker g good check w p) (w.1 k x c)

pub fits-lax : (g : Grammar) {e : Expr} {x : ParseTree} → Fits g e x → Fits (lax g) e x
fits-lax g h = fits-weaker g (λ c t. true) (λ k x. true) (λ c t i. refl, λ k x i. refl) h

pub fits-unchecked : (g : Grammar) {e : Expr} {x : ParseTree} → Fits g e x → Fits (unchecked g) e x
fits-unchecked g h = fits-weaker g g.good (λ k x. true) (λ c t i. i, λ k x i. refl) h

pub takes-lax : (g : Grammar) {e : Expr} {ts : List Token} {x : ParseTree} {us : List Token} → Takes g e ts x us → Takes (lax g) e ts x us
takes-lax g takes_nothing = takes_nothing
takes-lax g (takes_leaf {c = c} {t = t} h) = takes_leaf (and_from (matches c t) true (and_parts (matches c t) (g.good c t) h).0 refl)
takes-lax g (takes_both p q) = takes_both (takes-lax g p) (takes-lax g q)
takes-lax g (takes_first h p) = takes_first h (takes-lax g p)
takes-lax g (takes_second h p) = takes_second h (takes-lax g p)
takes-lax g (takes_stop h) = takes_stop h
takes-lax g (takes_more h p q) = takes_more h (takes-lax g p) (takes-lax g q)
takes-lax g (takes_node p c) = takes_node (takes-lax g p) refl

pub fails-lax : (g : Grammar) {e : Expr} {ts us : List Token} → Fails g e ts Unexpected us → Fails (lax g) e ts Unexpected us
fails-lax g (fails_one h) = fails_one h
fails-lax g (fails_before p) = fails_before (fails-lax g p)
fails-lax g (fails_after p q) = fails_after (takes-lax g p) (fails-lax g q)
fails-lax g (fails_first h p) = fails_first h (fails-lax g p)
fails-lax g (fails_second h p) = fails_second h (fails-lax g p)
fails-lax g (fails_neither h) = fails_neither h
fails-lax g (fails_turn h p) = fails_turn h (fails-lax g p)
fails-lax g (fails_later h p q) = fails_later h (takes-lax g p) (fails-lax g q)
fails-lax g (fails_node p) = fails_node (fails-lax g p)

-- ---- where the reader stops

-- The tokens read up to us begin a list. Only the next item there made the reader stop.
pub record Stuck (g : Grammar) (e : Expr) (ts : List Token) (why : Reason) (us : List Token) : Type 0 where
  pub front : List Token
  pub parts : ts ≡ front ++ us
  pub begins : Begins (unchecked g) e front
  pub value : (c : Class) → why ≡ Improper c → IsValue g e front c us
  pub rejected : (k : ℕ) → why ≡ RejectedNode k → IsRejectedBefore g front k
  pub again : (vs : List Token) → peek vs ≡ peek us → Fails g e (front ++ vs) why vs

pub begins-around : (h : Grammar) (a e : Expr) (ts : List Token) (wrap : ParseTree → ParseTree) (end : List Token)
    → ((x : ParseTree) → Fits h a x → Fits h e (wrap x))
    → ((x : ParseTree) → leaves (wrap x) ≡ leaves x ++ end) → Begins h a ts → Begins h e ts
begins-around h a e ts wrap end fit same b =
    (wrap b.0, b.1 ++ end, (fit b.0 b.2.0, sym (append_assoc ts b.1 end) ∙ ap (λ (l : List Token). l ++ end) b.2.1 ∙ sym (same b.0)))

pub begins-after : (h : Grammar) (a e : Expr) (xs ts : List Token) (wrap : ParseTree → ParseTree) → ((x : ParseTree) → Fits h a x → Fits h e (wrap x))
    → ((x : ParseTree) → leaves (wrap x) ≡ xs ++ leaves x) → Begins h a ts → Begins h e (xs ++ ts)
begins-after h a e xs ts wrap fit same b =
    (wrap b.0, b.1, (fit b.0 b.2.0, append_assoc xs ts b.1 ∙ ap (λ (l : List Token). xs ++ l) b.2.1 ∙ sym (same b.0)))

begins-tree : (g : Grammar) (e : Expr) → HasTree g e → Begins (unchecked g) e []
begins-tree g e x = (x.0, leaves x.0, (fits-unchecked g x.1, refl))

-- an error at once, before any token
at-once : (g : Grammar) (e : Expr) (ts : List Token) → HasTree g e → ((vs : List Token) → peek vs ≡ peek ts → Fails g e vs Unexpected vs)
    → Stuck g e ts Unexpected ts
at-once g e ts x again = record { front = []; parts = refl; begins = begins-tree g e x; value = λ c i. absurd cc; rejected = λ k i. absurd cc; again = again }

improper_is : (c d : Class) → Improper c ≡ Improper d → c ≡ d
improper_is c d h = cc

again_value : (g : Grammar) (c : Class) (t : Token) → matches c t ≡ true → g.good c t ≡ false → (vs : List Token) → peek vs ≡ Some t
    → Fails g (One c) vs (Improper c) vs
again_value g c t m h [] k = absurd cc
again_value g c t m h (u ∷ us) k = subst (λ (o : Token). Fails g (One c) (o ∷ us) (Improper c) (o ∷ us)) (some_is t u (sym k)) (fails_value m h)

at-value : (g : Grammar) (c : Class) (t : Token) (ts : List Token) → HasTree g (One c) → matches c t ≡ true → g.good c t ≡ false
    → Stuck g (One c) (t ∷ ts) (Improper c) (t ∷ ts)
at-value g c t ts x m h = record {
  front = [];
  parts = refl;
  begins = begins-tree g (One c) x;
  value = λ d i. subst (λ (k : Class). IsValue g (One c) [] k (t ∷ ts)) (improper_is c d i)
      (record { token = t; rest = ts; is = refl; of_class = m; not_good = h; begins = (Leaf t, [], (fits_leaf (and_from (matches c t) true m refl), refl)) });
  rejected = λ k i. absurd cc;
  again = again_value g c t m h;
}

-- a tree that does not pass its check
at-check : (g : Grammar) (k : ℕ) (ts us : List Token) (x : ParseTree) → Takes g (row g k).rule ts x us → g.check k x ≡ false → Stuck g (Sym k) ts (RejectedNode k) us
at-check g k ts us x p h = record {
  front = leaves x;
  parts = takes-leaves g p;
  begins = (Node k x, [], (fits_node (fits-unchecked g (takes-fits g p)) refl, append-nil (leaves x)));
  value = λ c i. absurd cc;
  rejected = λ j i. subst (λ (l : ℕ). IsRejectedBefore g (leaves x) l) (same_rejected k j i)
      (record { tree = x; before = []; parts = refl; fits = takes-fits g p; check = h });
  again = λ vs i. fails_check (takes-local g p vs i) h;
}
  where
    same_rejected : (a b : ℕ) → RejectedNode a ≡ RejectedNode b → a ≡ b
    same_rejected a b e = cc

-- the same token without a value, after other tokens of another expression
pub value_in : {g h : Grammar} {a e : Expr} {front before us : List Token} {c : Class} (v : IsValue g a front c us) → h.good c v.token ≡ false
    → Begins (lax h) e (before ++ v.token ∷ []) → IsValue h e before c us
value_in v bad begins = record { token = v.token; rest = v.rest; is = v.is; of_class = v.of_class; not_good = bad; begins = begins }

-- another expression around it, if what is read stays the same
around : (g : Grammar) (a e : Expr) (ts us : List Token) (why : Reason) (s : Stuck g a ts why us) (wrap : ParseTree → ParseTree) (end : List Token)
    → ((x : ParseTree) → Fits (unchecked g) a x → Fits (unchecked g) e (wrap x)) → ((x : ParseTree) → Fits (lax g) a x → Fits (lax g) e (wrap x))
    → ((x : ParseTree) → leaves (wrap x) ≡ leaves x ++ end)
    → ((vs : List Token) → peek ts ≡ peek (s.front ++ vs) → Fails g a (s.front ++ vs) why vs → Fails g e (s.front ++ vs) why vs) → Stuck g e ts why us
around g a e ts us why s wrap end fit lax_fit same again = record {
  front = s.front;
  parts = s.parts;
  begins = begins-around (unchecked g) a e s.front wrap end fit same s.begins;
  value = λ c i. let v = s.value c i in value_in v v.not_good (begins-around (lax g) a e (s.front ++ v.token ∷ []) wrap end lax_fit same v.begins);
  rejected = s.rejected;
  again = λ vs k. again vs (same_item ts s.front us vs s.parts k) (s.again vs k);
}

-- the same after a tree that was read
after : (g : Grammar) (a b e : Expr) (ts us vs : List Token) (x : ParseTree) (why : Reason) → Takes g a ts x us → (s : Stuck g b us why vs)
    → (wrap : ParseTree → ParseTree)
    → ((y : ParseTree) → Fits (unchecked g) b y → Fits (unchecked g) e (wrap y)) → ((y : ParseTree) → Fits (lax g) b y → Fits (lax g) e (wrap y))
    → ((y : ParseTree) → leaves (wrap y) ≡ leaves x ++ leaves y)
    → ((ws : List Token) → peek ts ≡ peek (leaves x ++ (s.front ++ ws)) → Takes g a (leaves x ++ (s.front ++ ws)) x (s.front ++ ws)
    → Fails g b (s.front ++ ws) why ws → Fails g e (leaves x ++ (s.front ++ ws)) why ws) → Stuck g e ts why vs
after g a b e ts us vs x why p s wrap fit lax_fit same again = record {
  front = leaves x ++ s.front;
  parts = takes-leaves g p ∙ ap (λ (l : List Token). leaves x ++ l) s.parts ∙ sym (append_assoc (leaves x) s.front vs);
  begins = begins-after (unchecked g) b e (leaves x) s.front wrap fit same s.begins;
  value = λ c i. let v = s.value c i in value_in v v.not_good (subst (Begins (lax g) e) (sym (append_assoc (leaves x) s.front (v.token ∷ [])))
      (begins-after (lax g) b e (leaves x) (s.front ++ v.token ∷ []) wrap lax_fit same v.begins));
  rejected = λ k i. let r = s.rejected k i in record {
    tree = r.tree;
    before = leaves x ++ r.before;
    parts = ap (λ (l : List Token). leaves x ++ l) r.parts
        ∙ sym (append_assoc (leaves x) r.before (leaves r.tree));
    fits = r.fits;
    check = r.check;
  };
  again = λ ws k.
      let i : peek us ≡ peek (s.front ++ ws) = same_item us s.front vs ws s.parts k in
      subst (λ (l : List Token). Fails g e l why ws) (sym (append_assoc (leaves x) s.front ws))
      (again ws (same_item ts (leaves x) us (s.front ++ ws) (takes-leaves g p) (sym i)) (takes-local g p (s.front ++ ws) (sym i)) (s.again ws k));
}

pub stuck : (g : Grammar) → is_productive g ≡ true → {e : Expr} {ts : List Token} {why : Reason} {us : List Token} → Fails g e ts why us
    → has_samples g e ≡ true → Stuck g e ts why us
stuck g full (fails_one {c = c} {ts = ts} h) d = at-once g (One c) ts (tree-of g full (One c) d) (λ vs k. fails_one (ap (sees (c ∷ [])) k ∙ h))
stuck g full (fails_value {c = c} {t = t} {ts = ts} m h) d = at-value g c t ts (tree-of g full (One c) d) m h
stuck g full (fails_before {a = a} {b = b} {ts = ts} {us = us} {why = why} p) d =
    let d1 = and_parts (has_samples g a) (has_samples g b) d in
    let y = tree-of g full b d1.1 in
    around g a (Then a b) ts us why (stuck g full p d1.0) (λ x. Both x y.0) (leaves y.0) (λ x f. fits_both f (fits-unchecked g y.1))
    (λ x f. fits_both f (fits-lax g y.1)) (λ x. refl) (λ vs k f. fails_before f)
stuck g full (fails_after {a = a} {b = b} {ts = ts} {us = us} {vs = vs} {x = x} {why = why} p q) d =
    let d1 = and_parts (has_samples g a) (has_samples g b) d in
    after g a b (Then a b) ts us vs x why p (stuck g full q d1.1) (Both x) (λ y f. fits_both (fits-unchecked g (takes-fits g p)) f)
    (λ y f. fits_both (fits-lax g (takes-fits g p)) f) (λ y. refl) (λ ws k t f. fails_after t f)
stuck g full (fails_first {a = a} {b = b} {ts = ts} {us = us} {why = why} h p) d =
    let d1 = and_parts (has_samples g a) (has_samples g b) d in
    around g a (Either a b) ts us why (stuck g full p d1.0) First [] (λ x f. fits_first f) (λ x f. fits_first f) (λ x. sym (append-nil (leaves x)))
    (λ vs k f. fails_first (ap (choose g.rows a b) (sym k) ∙ h) f)
stuck g full (fails_second {a = a} {b = b} {ts = ts} {us = us} {why = why} h p) d =
    let d1 = and_parts (has_samples g a) (has_samples g b) d in
    around g b (Either a b) ts us why (stuck g full p d1.1) Second [] (λ x f. fits_second f) (λ x f. fits_second f) (λ x. sym (append-nil (leaves x)))
    (λ vs k f. fails_second (ap (choose g.rows a b) (sym k) ∙ h) f)
stuck g full (fails_neither {a = a} {b = b} {ts = ts} h) d = at-once g (Either a b) ts (tree-of g full (Either a b) d)
    (λ vs k. fails_neither (ap (choose g.rows a b) k ∙ h))
stuck g full (fails_turn {a = a} {ts = ts} {us = us} {why = why} h p) d =
    around g a (Many a) ts us why (stuck g full p d) (λ x. More x Stop) [] (λ x f. fits_more f fits_stop) (λ x f. fits_more f fits_stop) (λ x. refl)
    (λ vs k f. fails_turn (ap (sees (first g.rows a)) (sym k) ∙ h) f)
stuck g full (fails_later {a = a} {ts = ts} {us = us} {vs = vs} {x = x} {why = why} h p q) d =
    after g a (Many a) (Many a) ts us vs x why p (stuck g full q d) (More x) (λ y f. fits_more (fits-unchecked g (takes-fits g p)) f)
    (λ y f. fits_more (fits-lax g (takes-fits g p)) f) (λ y. refl) (λ ws k t f. fails_later (ap (sees (first g.rows a)) (sym k) ∙ h) t f)
stuck g full (fails_node {k = k} {ts = ts} {us = us} {why = why} p) d =
    around g (row g k).rule (Sym k) ts us why (stuck g full p (samples-at g g.rows k full)) (Node k) [] (λ x f. fits_node f refl) (λ x f. fits_node f refl)
    (λ x. sym (append-nil (leaves x))) (λ vs i f. fails_node f)
stuck g full (fails_check {k = k} {ts = ts} {us = us} {x = x} p h) d = at-check g k ts us x p h

-- ---- no list continues there

-- the whole of a derived list is read
pub reads_all : (g : Grammar) → is_ll1 g.rows ≡ true → (e : Expr) → decides g.rows e ≡ true → (ts : List Token) (x : ParseTree) → Derives g e ts x
    → Takes g e ts x []
reads_all g ok e d ts x h = subst (λ (l : List Token). Takes g e l x []) (append-nil (leaves x) ∙ sym h.1) (complete g ok h.0 d [] refl)

pub stuck-ends : (g : Grammar) → is_ll1 g.rows ≡ true → (e : Expr) → decides g.rows e ≡ true → (front us : List Token) (why : Reason)
    → ((vs : List Token) → peek vs ≡ peek us → Fails g e (front ++ vs) why vs) → Ends g e front (peek us)
stuck-ends g ok e d front us why again x more h k = take-or_fail g (reads_all g ok e d (front ++ more) x h) (again more k)

-- no list continues what was taken with the next item
pub taken-ends : (g : Grammar) → is_ll1 g.rows ≡ true → (e : Expr) → decides g.rows e ≡ true → (ts us : List Token) (x : ParseTree) → Takes g e ts x us
    → (y : ParseTree) (more : List Token) → Derives g e (leaves x ++ more) y → peek more ≡ peek us → (y ≡ x) × (more ≡ [])
taken-ends g ok e d ts us x p y more h k =
    let i = same-take g (reads_all g ok e d (leaves x ++ more) y h) (takes-local g p more k) in
    (i.0, sym i.1)
