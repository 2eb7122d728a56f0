-- Layouts that parse back: their parts can follow each other. At any positions the grammar derives their tokens, with a
-- parse tree of which R holds.
use Rattle.std.proofs.Common.{◌≡◌, ℕ, ◌+◌, ◌<◌, Bool, true, false, List, [], ◌∷◌, ◌++◌, refl, sym, ap, ap₂, ◌∙◌, subst}
use Rattle.graphql_core.specs.{Derives, Expr, Empty, One, Then, Either, Many, Sym, ParseTree, Nothing, Leaf, Both, First, Second, Stop, More, Node, Grammar}
use Rattle.graphql_core.specs.{row, accepts, leaves, Fits, fits_nothing, fits_leaf, fits_both, fits_first, fits_second, fits_stop, fits_more, fits_node}
use Rattle.graphql_core.specs.{nesting_of, is_punctuator_byte, Token, Place, Class, Extends, TestsAlike, is_below, kind_number, Item, HasItems, split, IsEnd}
use Rattle.graphql_core.specs.{Part, token, ignored, text_of}
use Rattle.graphql_core.proofs.rules.{reads_on}
use Rattle.std.specs.List.{list_all}
use Rattle.graphql_core.specs.declared.tokenizer.token.Kind.{Kind}
use Rattle.graphql_core.specs.declared.tokenizer.token.Kind.TheVariants.{Punctuator}
use Rattle.graphql_core.specs.declared.tokenizer.piece.Nesting.{Nesting}
use Rattle.graphql_core.specs.declared.tokenizer.piece.Nesting.TheVariants.{Unchanged, Opens, Closes}
use Rattle.graphql_core.proofs.layouts.{IsWord, is_blank, Deepens, CanFollow, done, as_word, margin, gap, word, punctuator_can_follow}
use Rattle.graphql_core.proofs.layouts.{dots, anywhere, follows_after, Spells, spells_split, has_tokens}

-- these tokens have a parse tree of the expression, of which R holds
abbrev pub HasParseTree : Grammar → Expr → (ParseTree → Type 0) → List Token → Type 0
HasParseTree g e R ts = (x : ParseTree) × Fits g e x × (ts ≡ leaves x) × R x

pub record Back (g : Grammar) (e : Expr) (p : Bool) (d : ℕ) (ps : List Part) (q : Bool) (f : ℕ) (R : ParseTree → Type 0) : Type 0 where
  pub follows : CanFollow p d ps q f
  pub reads : (ts : List Token) → Spells ps ts → HasParseTree g e R ts

-- no condition on a parse tree or a value
abbrev pub Any : ParseTree → Type 0
Any x = Unit {0}

-- ---- states

pub as_word_back : {g : Grammar} {e : Expr} {p : Bool} {d f : ℕ} {ps : List Part} {R : ParseTree → Type 0} → Back g e p d ps false f R
    → Back g e p d ps true f R
as_word_back b = record { follows = as_word b.follows; reads = b.reads }

pub anywhere_back : {g : Grammar} {e : Expr} {q : Bool} {d f : ℕ} {ps : List Part} {R : ParseTree → Type 0} → Back g e true d ps q f R
    → Back g e false d ps q f R
anywhere_back b = record { follows = anywhere b.follows; reads = b.reads }

-- the same parts, given by an equal list
pub same_parts : {g : Grammar} {e : Expr} {p q : Bool} {d f : ℕ} {R : ParseTree → Type 0} (ps qs : List Part) → qs ≡ ps → Back g e p d ps q f R
    → Back g e p d qs q f R
same_parts {g} {e} {p} {q} {d} {f} {R} ps qs same b = subst (λ (rs : List Part). Back g e p d rs q f R) (sym same) b

-- the same, with a weaker condition on the parse tree
pub means : {g : Grammar} {e : Expr} {p q : Bool} {d f : ℕ} {ps : List Part} {P R : ParseTree → Type 0} → ((x : ParseTree) → P x → R x) → Back g e p d ps q f P
    → Back g e p d ps q f R
means h b = record { follows = b.follows; reads = λ ts s. let (x, fits, is, r) = b.reads ts s in (x, fits, is, h x r) }

-- ---- white space before an expression, and after it

pub margin_back : {g : Grammar} {e : Expr} {p q : Bool} {d f : ℕ} {text : List ℕ} {ps : List Part} {R : ParseTree → Type 0} → list_all is_blank text ≡ true
    → Back g e p d ps q f R → Back g e p d (ignored text ∷ ps) q f R
margin_back h b = record { follows = margin h b.follows; reads = b.reads }

pub gap_back : {g : Grammar} {e : Expr} {p q : Bool} {d f c : ℕ} {text : List ℕ} {ps : List Part} {R : ParseTree → Type 0} → list_all is_blank (c ∷ text) ≡ true
    → Back g e false d ps q f R → Back g e p d (ignored (c ∷ text) ∷ ps) q f R
gap_back h b = record { follows = gap h b.follows; reads = b.reads }

spells_gap : (ps : List Part) (text : List ℕ) (ts : List Token) → Spells (ps ++ ignored text ∷ []) ts → Spells ps ts
spells_gap [] text ts h = h
spells_gap (ignored other ∷ ps) text ts h = spells_gap ps text ts h
spells_gap (token k s ∷ ps) text [] h = absurd h
spells_gap (token k s ∷ ps) text (t ∷ ts) (kind, spelling, h) = (kind, spelling, spells_gap ps text ts h)

pub then_gap : {g : Grammar} {e : Expr} {p q : Bool} {d f : ℕ} {ps : List Part} {R : ParseTree → Type 0} (c : ℕ) (text : List ℕ)
    → list_all is_blank (c ∷ text) ≡ true
    → Back g e p d ps q f R → Back g e p d (ps ++ ignored (c ∷ text) ∷ []) false f R
then_gap {ps = ps} c text h b = record { follows = follows_after b.follows (gap h done); reads = λ ts s. b.reads ts (spells_gap ps (c ∷ text) ts s) }

-- ---- single tokens

-- a class takes a token of this kind and spelling, at any position
abbrev pub Takes : Grammar → Class → Kind → List ℕ → Type 0
Takes g c k s = (p : Place) → accepts g c (record { kind = kind_number k; spelling = s; place = p }) ≡ true

leaf_of : {g : Grammar} (c : Class) (k : Kind) (s : List ℕ) {R : ParseTree → Type 0} → Takes g c k s → ((t : Token) → t.spelling ≡ s → R (Leaf t))
    → (ts : List Token) → Spells (token k s ∷ []) ts → HasParseTree g (One c) R ts
leaf_of c k s takes r [] h = absurd h
leaf_of {g} c k s takes r (t ∷ ts) (kind, spelling, none) =
    let same : t ≡ record { kind = kind_number k; spelling = s; place = t.place } = λ i. record { kind = kind i; spelling = spelling i; place = t.place } in
    (Leaf t, fits_leaf (ap (accepts g c) same ∙ takes t.place), ap (λ (l : List Token). t ∷ l) none, r t spelling)

pub word_back : {g : Grammar} {c : Class} {k : Kind} {s : List ℕ} {d : ℕ} {R : ParseTree → Type 0} → IsWord k s → Takes g c k s
    → ((t : Token) → t.spelling ≡ s → R (Leaf t)) → Back g (One c) false d (token k s ∷ []) true d R
word_back {c = c} {k = k} {s = s} w takes r = record { follows = word w done; reads = leaf_of c k s takes r }

-- a punctuator of one character, and how it nests
abbrev pub IsMark : Nesting → List ℕ → Type 0
IsMark n (b ∷ []) = (is_punctuator_byte b ≡ true) × (nesting_of b ≡ n)
IsMark n s = ⊥

bracket_back : {g : Grammar} {c : Class} {p : Bool} {d e : ℕ} (n : Nesting) (s : List ℕ) → IsMark n s → Deepens n d e → Takes g c Punctuator s
    → Back g (One c) p d (token Punctuator s ∷ []) false e Any
bracket_back n [] h nests takes = absurd h
bracket_back {c = c} {d = d} {e = e} n (b ∷ []) (m, is) nests takes =
    record { follows = punctuator_can_follow m (subst (λ (x : Nesting). Deepens x d e) (sym is) nests) done; reads = leaf_of c Punctuator (b ∷ []) takes (λ t h. tt) }
bracket_back n (b ∷ c ∷ cs) h nests takes = absurd h

-- A punctuator that is no bracket; an opening bracket, if fewer than 50 are open; and a closing bracket.
pub punctuator_back : {g : Grammar} {c : Class} {p : Bool} {d : ℕ} (s : List ℕ) → IsMark Unchanged s → Takes g c Punctuator s
    → Back g (One c) p d (token Punctuator s ∷ []) false d Any
punctuator_back s m takes = bracket_back Unchanged s m refl takes

pub open_back : {g : Grammar} {c : Class} {p : Bool} {d : ℕ} (s : List ℕ) → IsMark Opens s → d < 50 → Takes g c Punctuator s
    → Back g (One c) p d (token Punctuator s ∷ []) false (d + 1) Any
open_back s m capacity takes = bracket_back Opens s m (capacity, refl) takes

pub close_back : {g : Grammar} {c : Class} {p : Bool} {d : ℕ} (s : List ℕ) → IsMark Closes s → Takes g c Punctuator s
    → Back g (One c) p (d + 1) (token Punctuator s ∷ []) false d Any
close_back s m takes = bracket_back Closes s m refl takes

pub dots_back : {g : Grammar} {c : Class} {d : ℕ} → Takes g c Punctuator (46 ∷ 46 ∷ 46 ∷ [])
    → Back g (One c) false d (token Punctuator (46 ∷ 46 ∷ 46 ∷ []) ∷ []) false d Any
dots_back {c = c} takes = record { follows = dots done; reads = leaf_of c Punctuator (46 ∷ 46 ∷ 46 ∷ []) takes (λ t h. tt) }

-- ---- what expressions are made of

pub nothing_back : {g : Grammar} {p : Bool} {d : ℕ} {R : ParseTree → Type 0} → R Nothing → Back g Empty p d [] p d R
nothing_back r = record { follows = done; reads = λ ts h. (Nothing, fits_nothing, h, r) }

-- two parts, one after the other, in a parse tree of both
two_back : {g : Grammar} {a b c : Expr} {p q r : Bool} {d e f : ℕ} {ps qs : List Part} {P Q R : ParseTree → Type 0} (put : ParseTree → ParseTree → ParseTree)
    → ((x y : ParseTree) → leaves (put x y) ≡ leaves x ++ leaves y) → ((x y : ParseTree) → Fits g a x → Fits g b y → Fits g c (put x y))
    → Back g a p d ps q e P → Back g b q e qs r f Q → ((x y : ParseTree) → P x → Q y → R (put x y)) → Back g c p d (ps ++ qs) r f R
two_back {ps = ps} {qs = qs} put same fit h k both = record {
  follows = follows_after h.follows k.follows;
  reads = λ ts s.
      let (us, vs, parts, s1, s2) = spells_split ps qs ts s in
      let (x, fx, lx, rx) = h.reads us s1 in
      let (y, fy, ly, ry) = k.reads vs s2 in
      (put x y, fit x y fx fy, parts ∙ ap₂ (λ (l m : List Token). l ++ m) lx ly ∙ sym (same x y), both x y rx ry);
}

pub both_back : {g : Grammar} {a b : Expr} {p q r : Bool} {d e f : ℕ} {ps qs : List Part} {P Q R : ParseTree → Type 0}
    → Back g a p d ps q e P → Back g b q e qs r f Q → ((x y : ParseTree) → P x → Q y → R (Both x y)) → Back g (Then a b) p d (ps ++ qs) r f R
both_back h k both = two_back Both (λ x y. refl) (λ x y fx fy. fits_both fx fy) h k both

pub first_back : {g : Grammar} {a b : Expr} {p q : Bool} {d f : ℕ} {ps : List Part} {R : ParseTree → Type 0} → Back g a p d ps q f (λ x. R (First x))
    → Back g (Either a b) p d ps q f R
first_back h = record { follows = h.follows; reads = λ ts s. let (x, fits, is, r) = h.reads ts s in (First x, fits_first fits, is, r) }

pub second_back : {g : Grammar} {a b : Expr} {p q : Bool} {d f : ℕ} {ps : List Part} {R : ParseTree → Type 0} → Back g b p d ps q f (λ x. R (Second x))
    → Back g (Either a b) p d ps q f R
second_back h = record { follows = h.follows; reads = λ ts s. let (x, fits, is, r) = h.reads ts s in (Second x, fits_second fits, is, r) }

pub node_back : {g : Grammar} {k : ℕ} {p q : Bool} {d f : ℕ} {ps : List Part} {R : ParseTree → Type 0} → ((x : ParseTree) → g.check k x ≡ true)
    → Back g (row g k).rule p d ps q f (λ x. R (Node k x)) → Back g (Sym k) p d ps q f R
node_back {k = k} passes h = record { follows = h.follows; reads = λ ts s. let (x, fits, is, r) = h.reads ts s in (Node k x, fits_node fits (passes x), is, r) }

-- a node that has a check passes it, if P holds of its parse tree
pub checked_back : {g : Grammar} {k : ℕ} {p q : Bool} {d f : ℕ} {ps : List Part} {P R : ParseTree → Type 0} → ((x : ParseTree) → P x → g.check k x ≡ true)
    → ((x : ParseTree) → P x → R (Node k x))
    → Back g (row g k).rule p d ps q f P → Back g (Sym k) p d ps q f R
checked_back {k = k} passes means h =
    record { follows = h.follows; reads = λ ts s. let (x, fits, is, r) = h.reads ts s in (Node k x, fits_node fits (passes x r), is, means x r) }

pub stop_back : {g : Grammar} {a : Expr} {p : Bool} {d : ℕ} {R : ParseTree → Type 0} → R Stop → Back g (Many a) p d [] p d R
stop_back r = record { follows = done; reads = λ ts h. (Stop, fits_stop, h, r) }

pub more_back : {g : Grammar} {a : Expr} {p q r : Bool} {d e f : ℕ} {ps qs : List Part} {P Q R : ParseTree → Type 0}
    → Back g a p d ps q e P → Back g (Many a) q e qs r f Q → ((x y : ParseTree) → P x → Q y → R (More x y)) → Back g (Many a) p d (ps ++ qs) r f R
more_back h k more = two_back More (λ x y. refl) (λ x y fx fy. fits_more fx fy) h k more

-- ---- longer rules

pub three_back : {g : Grammar} {a b c : Expr} {p q r s : Bool} {d e f h : ℕ} {ps qs rs : List Part} {P Q R S : ParseTree → Type 0}
    → Back g a p d ps q e P → Back g b q e qs r f Q → Back g c r f rs s h R
    → ((x y z : ParseTree) → P x → Q y → R z → S (Both x (Both y z))) → Back g (Then a (Then b c)) p d (ps ++ (qs ++ rs)) s h S
three_back {P = P} {Q = Q} {R = R} {S = S} k l m all =
    both_back k (both_back {R = λ (w : ParseTree). (y : ParseTree) × (z : ParseTree) × (w ≡ Both y z) × Q y × R z} l m (λ y z hy hz. (y, z, refl, hy, hz)))
    (λ x w hx i. subst (λ (v : ParseTree). S (Both x v)) (sym i.2) (all x i.0 i.1 hx i.3 i.4))

pub four_back : {g : Grammar} {a b c n : Expr} {p q r s u : Bool} {d e f h i : ℕ} {ps qs rs ss : List Part} {P Q R S T : ParseTree → Type 0}
    → Back g a p d ps q e P → Back g b q e qs r f Q → Back g c r f rs s h R → Back g n s h ss u i S
    → ((x y z w : ParseTree) → P x → Q y → R z → S w → T (Both x (Both y (Both z w))))
    → Back g (Then a (Then b (Then c n))) p d (ps ++ (qs ++ (rs ++ ss))) u i T
four_back {Q = Q} {R = R} {S = S} {T = T} k l m o all =
    both_back k (three_back {S = λ (v : ParseTree). (y : ParseTree) × (z : ParseTree) × (w : ParseTree) × (v ≡ Both y (Both z w)) × Q y × R z × S w} l m o
    (λ y z w hy hz hw. (y, z, w, refl, hy, hz, hw)))
    (λ x v hx j. subst (λ (v : ParseTree). T (Both x v)) (sym j.3) (all x j.0 j.1 j.2 hx j.4 j.5 j.6))

pub five_back : {g : Grammar} {a b c n m : Expr} {p q r s u v : Bool} {d e f h i j : ℕ} {ps qs rs ss us : List Part} {P Q R S T V : ParseTree → Type 0}
    → Back g a p d ps q e P → Back g b q e qs r f Q → Back g c r f rs s h R → Back g n s h ss u i S → Back g m u i us v j T
    → ((x y z w k : ParseTree) → P x → Q y → R z → S w → T k → V (Both x (Both y (Both z (Both w k)))))
    → Back g (Then a (Then b (Then c (Then n m)))) p d (ps ++ (qs ++ (rs ++ (ss ++ us)))) v j V
five_back {Q = Q} {R = R} {S = S} {T = T} {V = V} k l m o t all =
    both_back k (four_back {T = λ (v : ParseTree). (y : ParseTree) × (z : ParseTree) × (w : ParseTree) × (u : ParseTree) × (v ≡ Both y (Both z (Both w u)))
    × Q y × R z × S w × T u} l m o t (λ y z w u hy hz hw hu. (y, z, w, u, refl, hy, hz, hw, hu)))
    (λ x v hx j. subst (λ (v : ParseTree). V (Both x v)) (sym j.4) (all x j.0 j.1 j.2 j.3 hx j.5 j.6 j.7 j.8))

pub six_back : {g : Grammar} {a b c n m l : Expr} {p q r s u v w : Bool} {d e f h i j k : ℕ}
    {ps qs rs ss us vs : List Part} {P Q R S T V W : ParseTree → Type 0}
    → Back g a p d ps q e P → Back g b q e qs r f Q → Back g c r f rs s h R → Back g n s h ss u i S → Back g m u i us v j T → Back g l v j vs w k V
    → ((x y z t o c : ParseTree) → P x → Q y → R z → S t → T o → V c → W (Both x (Both y (Both z (Both t (Both o c))))))
    → Back g (Then a (Then b (Then c (Then n (Then m l))))) p d (ps ++ (qs ++ (rs ++ (ss ++ (us ++ vs))))) w k W
six_back {Q = Q} {R = R} {S = S} {T = T} {V = V} {W = W} k l m o t u all =
    both_back k (five_back {V = λ (v : ParseTree). (y : ParseTree) × (z : ParseTree) × (w : ParseTree) × (n : ParseTree) × (c : ParseTree)
    × (v ≡ Both y (Both z (Both w (Both n c)))) × Q y × R z × S w × T n × V c} l m o t u
    (λ y z w n c hy hz hw hn hc. (y, z, w, n, c, refl, hy, hz, hw, hn, hc)))
    (λ x v hx j. subst (λ (v : ParseTree). W (Both x v)) (sym j.5) (all x j.0 j.1 j.2 j.3 j.4 hx j.6 j.7 j.8 j.9 j.10))

pub seven_back : {g : Grammar} {a b c n m l o : Expr} {p q r s u v w z : Bool} {d e f h i j k t : ℕ} {ps qs rs ss us vs ws : List Part}
    {P Q R S T V W X : ParseTree → Type 0}
    → Back g a p d ps q e P → Back g b q e qs r f Q → Back g c r f rs s h R → Back g n s h ss u i S → Back g m u i us v j T → Back g l v j vs w k V
    → Back g o w k ws z t W
    → ((x y z t o c n : ParseTree) → P x → Q y → R z → S t → T o → V c → W n → X (Both x (Both y (Both z (Both t (Both o (Both c n)))))))
    → Back g (Then a (Then b (Then c (Then n (Then m (Then l o)))))) p d (ps ++ (qs ++ (rs ++ (ss ++ (us ++ (vs ++ ws)))))) z t X
seven_back {Q = Q} {R = R} {S = S} {T = T} {V = V} {W = W} {X = X} k l m o t u n all =
    both_back k (six_back {W = λ (v : ParseTree). (y : ParseTree) × (z : ParseTree) × (w : ParseTree) × (n : ParseTree) × (c : ParseTree) × (r : ParseTree)
    × (v ≡ Both y (Both z (Both w (Both n (Both c r))))) × Q y × R z × S w × T n × V c × W r} l m o t u n
    (λ y z w n c r hy hz hw hn hc hr. (y, z, w, n, c, r, refl, hy, hz, hw, hn, hc, hr)))
    (λ x v hx j. subst (λ (v : ParseTree). X (Both x v)) (sym j.6) (all x j.0 j.1 j.2 j.3 j.4 j.5 hx j.7 j.8 j.9 j.10 j.11 j.12))

-- ---- a grammar that extends another

pub lift_back : {n : ℕ} {g h : Grammar} {e : Expr} {p q : Bool} {d f : ℕ} {ps : List Part} {R : ParseTree → Type 0} → Extends n g h → is_below n e ≡ true
    → TestsAlike g h e → Back g e p d ps q f R
    → Back h e p d ps q f R
lift_back {n} {g} {h} {e} on below alike b = record {
  follows = b.follows;
  reads = λ ts s.
      let (x, fits, is, r) = b.reads ts s in
      let lifted = (reads_on n g h on e below alike).derives ts x (fits, is) in
      (x, lifted.0, is, r);
}

-- ---- whole outputs

-- The tokens of the output are a list of the expression, with a parse tree of which R holds. After them comes the end.
abbrev pub ParsesBackTo : Grammar → Expr → List ℕ → (ParseTree → Type 0) → Type 0
ParsesBackTo g e text R = (items : List Item) × HasItems text items × (x : ParseTree) × Derives g e (split items).tokens x × IsEnd (split items).last × R x

pub parses_back : {g : Grammar} {e : Expr} {q : Bool} {f : ℕ} {ps : List Part} {R : ParseTree → Type 0} → Back g e false 0 ps q f R
    → ParsesBackTo g e (text_of ps) R
parses_back {ps = ps} b =
    let (items, has, spells, end) = has_tokens ps b.follows in
    let (x, fits, is, r) = b.reads (split items).tokens spells in
    (items, has, x, (fits, is), end, r)
