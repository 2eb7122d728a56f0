-- Parse trees that differ only in the positions of tokens and in the spellings of block strings.
use Rattle.std.proofs.Common.{◌≡◌, ◌⊎◌, ℕ, zero, suc, Bool, true, false, not, ◌&&◌, ◌||◌, ◌==◌, if◌then◌else◌, List, [], ◌∷◌, ◌++◌, map, inl, inr, refl}
use Rattle.std.proofs.Common.{sym, ap, ap₂, ◌∙◌, subst}
use Rattle.std.proofs.lemmas.Bool.{and_parts, eqb-true, not-true}
use Rattle.graphql_core.specs.{Grammar, Expr, Empty, One, Then, Either, Many, Sym, Row, row, row_at, ParseTree, Nothing, Leaf, Both, First, Second, Stop, More}
use Rattle.graphql_core.specs.{Node, leaves, accepts, matches, Fits, fits_nothing, fits_leaf, fits_both, fits_first, fits_second, fits_stop, fits_more}
use Rattle.graphql_core.specs.{fits_node, Token, Class, Spelled, AnyOf, Except, class_kind, kind_number, unplaced, block_string_of, has_value, is_good, valued}
use Rattle.graphql_core.specs.declared.tokenizer.token.Kind.TheVariants.{BlockString}
use Rattle.graphql_core.proofs.grammar.OneClass.{head_is, tail_is}

-- ---- tokens with the same value

abbrev is_block : ℕ → Bool
is_block kind = kind == kind_number BlockString

-- The tokens have the same kind. They have the same spelling, or they are block strings with the same value.
abbrev SameValue : Token → Token → Type 0
SameValue t u = (u.kind ≡ t.kind) × ((u.spelling ≡ t.spelling) ⊎ (is_block t.kind ≡ true) × (block_string_of u.spelling ≡ block_string_of t.spelling))

spelling_or_value : (a b : Bool) (s r : List ℕ) → b ≡ a → (if b then block_string_of r else r) ≡ (if a then block_string_of s else s)
    → (r ≡ s) ⊎ (a ≡ true) × (block_string_of r ≡ block_string_of s)
spelling_or_value true true s r h e = inr (refl, e)
spelling_or_value false false s r h e = inl e
spelling_or_value true false s r h e = absurd cc
spelling_or_value false true s r h e = absurd cc

same_value : (t u : Token) → valued u ≡ valued t → SameValue t u
same_value t u e =
    let kind : u.kind ≡ t.kind = ap (λ (v : Token). v.kind) e in
    (kind, spelling_or_value (is_block t.kind) (is_block u.kind) t.spelling u.spelling (ap is_block kind) (ap (λ (v : Token). v.spelling) e))

block_values : (t u : Token) → valued u ≡ valued t → block_string_of u.spelling ≡ block_string_of t.spelling
block_values t u e = elim ((same_value t u e).1) [ inl same ↦ ap block_string_of same | inr same ↦ same.1 ]

-- tokens with the same value that are no block strings differ only in their positions
other_values : (t u : Token) → is_block t.kind ≡ false → valued u ≡ valued t → unplaced u ≡ unplaced t
other_values t u none e = elim ((same_value t u e).1) [
  | inl same ↦ ap₂ (λ (k : ℕ) (s : List ℕ). unplaced (record { kind = k; spelling = s; place = t.place })) (same_value t u e).0 same
  | inr same ↦ absurd cc
]

-- ---- lists of tokens

-- The part of a token that is compared: its kind, and its spelling or only its value. The position is ignored.
abbrev pub compared : (spelled : Bool) → Token → Token
compared true t = unplaced t
compared false t = valued t

abbrev pub AlikeBy : (spelled : Bool) → List Token → List Token → Type 0
AlikeBy spelled us ts = map (compared spelled) us ≡ map (compared spelled) ts

-- the tokens are equal ignoring positions
abbrev pub Alike : List Token → List Token → Type 0
Alike = AlikeBy true

pub alike_values : (us ts : List Token) → Alike us ts → AlikeBy false us ts
alike_values [] [] h = refl
alike_values [] (t ∷ ts) h = absurd cc
alike_values (u ∷ us) [] h = absurd cc
alike_values (u ∷ us) (t ∷ ts) h =
    let first = head_is (unplaced u) (unplaced t) (map unplaced us) (map unplaced ts) h in
    let more = alike_values us ts (tail_is (unplaced u) (unplaced t) (map unplaced us) (map unplaced ts) h) in
    λ i. valued (first i) ∷ more i

abbrev AlikeBoth : Bool → List Token → List Token → List Token → Type 0
AlikeBoth spelled xs ys us = (vs : List Token) × (ws : List Token) × (us ≡ vs ++ ws) × AlikeBy spelled vs xs × AlikeBy spelled ws ys

split_by : (spelled : Bool) (xs ys us : List Token) → AlikeBy spelled us (xs ++ ys) → AlikeBoth spelled xs ys us
split_by spelled [] ys us h = ([], us, refl, refl, h)
split_by spelled (x ∷ xs) ys [] h = absurd cc
split_by spelled (x ∷ xs) ys (u ∷ us) h =
    let f : Token → Token = compared spelled in
    let first = head_is (f u) (f x) (map f us) (map f (xs ++ ys)) h in
    let (vs, ws, parts, same, more) = split_by spelled xs ys us (tail_is (f u) (f x) (map f us) (map f (xs ++ ys)) h) in
    (u ∷ vs, ws, ap (λ (l : List Token). u ∷ l) parts, (λ i. first i ∷ same i), more)

pub alike_split : (xs ys us : List Token) → Alike us (xs ++ ys) → AlikeBoth true xs ys us
alike_split = split_by true

-- ---- leaves

-- The class cannot tell the tokens apart. For any token of a kind, they have the same value.
-- For another class, they are equal ignoring positions.
abbrev pub SameLeaf : Class → Token → Token → Type 0
SameLeaf (AnyOf k) t u = valued u ≡ valued t
SameLeaf c t u = unplaced u ≡ unplaced t

pub unplaced_leaf : (c : Class) (t u : Token) → unplaced u ≡ unplaced t → SameLeaf c t u
unplaced_leaf (AnyOf k) t u e = ap valued e
unplaced_leaf (Spelled k s) t u e = e
unplaced_leaf (Except k ss) t u e = e

pub matches_same : (c : Class) (t u : Token) → SameLeaf c t u → matches c u ≡ matches c t
matches_same (AnyOf k) t u e = ap (matches (AnyOf k)) e
matches_same (Spelled k s) t u e = ap (matches (Spelled k s)) e
matches_same (Except k ss) t u e = ap (matches (Except k ss)) e

and_same : (a b p q : Bool) → b ≡ a → (a ≡ true → q ≡ p) → (b && q) ≡ (a && p)
and_same true b p q e h = λ i. e i && h refl i
and_same false b p q e h = ap (λ (c : Bool). c && q) e

-- of every block string this test is true
has_value_same : (k : ℕ) (t u : Token) → valued u ≡ valued t → matches (AnyOf k) t ≡ true → has_value k u.spelling ≡ has_value k t.spelling
has_value_same k t u e m = elim ((same_value t u e).1) [
  | inl same ↦ ap (has_value k) same
  | inr same ↦
      let kind = eqb-true k t.kind (and_parts _ _ m).0 ∙ eqb-true t.kind (kind_number BlockString) same.0 in
      subst (λ (j : ℕ). has_value j u.spelling ≡ has_value j t.spelling) (sym kind) refl
]

pub accepted_same : (c : Class) (t u : Token) → SameLeaf c t u → (matches c u && is_good c u) ≡ (matches c t && is_good c t)
accepted_same (AnyOf k) t u e =
    and_same (matches (AnyOf k) t) (matches (AnyOf k) u) (has_value k t.spelling) (has_value k u.spelling) (matches_same (AnyOf k) t u e)
    (has_value_same k t u e)
accepted_same (Spelled k s) t u e = ap (λ (b : Bool). b && true) (matches_same (Spelled k s) t u e)
accepted_same (Except k ss) t u e = ap (λ (b : Bool). b && true) (matches_same (Except k ss) t u e)

-- ---- two parse trees

-- Two parse trees of the same form. Their tokens are equal ignoring positions (`same_leaf`).
-- Where a token is a second alternative, only its value as a block string is the same (`same_block`).
pub data SameTrees : Type 0 where
  same_nothing : SameTrees
  same_leaf : (t u : Token) → unplaced u ≡ unplaced t → SameTrees
  same_block : (t u : Token) → block_string_of u.spelling ≡ block_string_of t.spelling → SameTrees
  same_both : (x y : SameTrees) → SameTrees
  same_first : (x : SameTrees) → SameTrees
  same_second : (y : SameTrees) → SameTrees
  same_stop : SameTrees
  same_more : (x y : SameTrees) → SameTrees
  same_node : (symbol : ℕ) (x : SameTrees) → SameTrees

abbrev pub left_tree : SameTrees → ParseTree
left_tree same_nothing = Nothing
left_tree (same_leaf t u e) = Leaf t
left_tree (same_block t u e) = Second (Leaf t)
left_tree (same_both x y) = Both (left_tree x) (left_tree y)
left_tree (same_first x) = First (left_tree x)
left_tree (same_second y) = Second (left_tree y)
left_tree same_stop = Stop
left_tree (same_more x y) = More (left_tree x) (left_tree y)
left_tree (same_node k x) = Node k (left_tree x)

abbrev pub right_tree : SameTrees → ParseTree
right_tree same_nothing = Nothing
right_tree (same_leaf t u e) = Leaf u
right_tree (same_block t u e) = Second (Leaf u)
right_tree (same_both x y) = Both (right_tree x) (right_tree y)
right_tree (same_first x) = First (right_tree x)
right_tree (same_second y) = Second (right_tree y)
right_tree same_stop = Stop
right_tree (same_more x y) = More (right_tree x) (right_tree y)
right_tree (same_node k x) = Node k (right_tree x)

-- ---- grammars

-- the expression names block strings only as a second alternative, `One (AnyOf ..)`
abbrev pub blocks_last : Expr → Bool
blocks_last Empty = true
blocks_last (One c) = not (is_block (class_kind c))
blocks_last (Then a b) = blocks_last a && blocks_last b
blocks_last (Either a (One (AnyOf k))) = blocks_last a
blocks_last (Either a b) = blocks_last a && blocks_last b
blocks_last (Many a) = blocks_last a
blocks_last (Sym k) = true

abbrev pub have_blocks_last : List Row → Bool
have_blocks_last [] = true
have_blocks_last (r ∷ rs) = blocks_last r.rule && have_blocks_last rs

pub blocks_last_at : (rs : List Row) (k : ℕ) → have_blocks_last rs ≡ true → blocks_last (row_at rs k).rule ≡ true
blocks_last_at [] k h = refl
blocks_last_at (r ∷ rs) zero h = (and_parts (blocks_last r.rule) (have_blocks_last rs) h).0
blocks_last_at (r ∷ rs) (suc k) h = blocks_last_at rs k (and_parts (blocks_last r.rule) (have_blocks_last rs) h).1

-- the condition on an expression, for its parts
first_part : (spelled a b : Bool) → (spelled || (a && b)) ≡ true → (spelled || a) ≡ true
first_part true a b h = refl
first_part false a b h = (and_parts a b h).0

second_part : (spelled a b : Bool) → (spelled || (a && b)) ≡ true → (spelled || b) ≡ true
second_part true a b h = refl
second_part false a b h = (and_parts a b h).1

compared_values : (spelled : Bool) (t u : Token) → compared spelled u ≡ compared spelled t → valued u ≡ valued t
compared_values true t u e = ap valued e
compared_values false t u e = e

-- for a leaf that is no second alternative
compared_spellings : (spelled : Bool) (c : Class) (t u : Token) → (spelled || not (is_block (class_kind c))) ≡ true → matches c t ≡ true
    → compared spelled u ≡ compared spelled t → unplaced u ≡ unplaced t
compared_spellings true c t u last m e = e
compared_spellings false c t u last m e =
    let kind = eqb-true (class_kind c) t.kind (and_parts _ _ m).0 in
    other_values t u (ap is_block (sym kind) ∙ not-true (is_block (class_kind c)) last) e

-- the expression derives these tokens by a parse tree that is the same as `x`
abbrev pub Refilled : Grammar → Expr → ParseTree → List Token → Type 0
Refilled g e x us = (s : SameTrees) × (left_tree s ≡ x) × Fits g e (right_tree s) × (us ≡ leaves (right_tree s))

-- If a grammar derives some tokens, it derives tokens that are equal by `compared`, by the same parse tree.
-- Its tests of leaves and nodes must respect this equality.
-- If only values are compared, its rules must satisfy `blocks_last`.
module _ (g : Grammar) (spelled : Bool) (good : (c : Class) (t u : Token) → SameLeaf c t u → accepts g c u ≡ accepts g c t)
    (checks : (k : ℕ) (s : SameTrees) → g.check k (right_tree s) ≡ g.check k (left_tree s))
    (rows : (k : ℕ) → (spelled || blocks_last (row g k).rule) ≡ true) where
  pub refilled : {e : Expr} {x : ParseTree} → Fits g e x → (spelled || blocks_last e) ≡ true → (us : List Token) → AlikeBy spelled us (leaves x)
      → Refilled g e x us
  refilled fits_nothing last [] h = (same_nothing, refl, fits_nothing, refl)
  refilled fits_nothing last (u ∷ us) h = absurd cc
  refilled (fits_leaf a) last [] h = absurd cc
  refilled (fits_leaf {c = c} {t = t} a) last (u ∷ []) h =
      let equal = head_is (compared spelled u) (compared spelled t) [] [] h in
      let same = compared_spellings spelled c t u last (and_parts (matches c t) (g.good c t) a).0 equal in
      (same_leaf t u same, refl, fits_leaf (good c t u (unplaced_leaf c t u same) ∙ a), refl)
  refilled (fits_leaf a) last (u ∷ v ∷ us) h = absurd cc
  refilled (fits_both {a = a} {b = b} {x = x} {y = y} p q) last us h =
      let (vs, ws, parts, same, more) = split_by spelled (leaves x) (leaves y) us h in
      let (v, ev, fv, lv) = refilled p (first_part spelled (blocks_last a) (blocks_last b) last) vs same in
      let (w, ew, fw, lw) = refilled q (second_part spelled (blocks_last a) (blocks_last b) last) ws more in
      (same_both v w, ap₂ Both ev ew, fits_both fv fw, parts ∙ ap₂ (λ (l m : List Token). l ++ m) lv lw)
  refilled (fits_first {b = One (AnyOf k)} p) last us h = let (v, ev, fv, lv) = refilled p last us h in (same_first v, ap First ev, fits_first fv, lv)
  refilled (fits_first {a = a} {b = b} p) last us h =
      let (v, ev, fv, lv) = refilled p (first_part spelled (blocks_last a) (blocks_last b) last) us h in
      (same_first v, ap First ev, fits_first fv, lv)
  refilled (fits_second (fits_leaf {c = AnyOf k} a)) last [] h = absurd cc
  refilled (fits_second (fits_leaf {c = AnyOf k} {t = t} a)) last (u ∷ []) h =
      let same = compared_values spelled t u (head_is (compared spelled u) (compared spelled t) [] [] h) in
      (same_block t u (block_values t u same), refl, fits_second (fits_leaf (good (AnyOf k) t u same ∙ a)), refl)
  refilled (fits_second (fits_leaf {c = AnyOf k} a)) last (u ∷ v ∷ us) h = absurd cc
  refilled (fits_second {a = a} {b = b} p) last us h =
      let (v, ev, fv, lv) = refilled p (second_part spelled (blocks_last a) (blocks_last b) last) us h in
      (same_second v, ap Second ev, fits_second fv, lv)
  refilled fits_stop last [] h = (same_stop, refl, fits_stop, refl)
  refilled fits_stop last (u ∷ us) h = absurd cc
  refilled (fits_more {x = x} {y = y} p q) last us h =
      let (vs, ws, parts, same, more) = split_by spelled (leaves x) (leaves y) us h in
      let (v, ev, fv, lv) = refilled p last vs same in
      let (w, ew, fw, lw) = refilled q last ws more in
      (same_more v w, ap₂ More ev ew, fits_more fv fw, parts ∙ ap₂ (λ (l m : List Token). l ++ m) lv lw)
  refilled (fits_node {k = k} p c) last us h =
      let (v, ev, fv, lv) = refilled p (rows k) us h in
      (same_node k v, ap (Node k) ev, fits_node fv (checks k v ∙ ap (g.check k) ev ∙ c), lv)

-- for tokens that are equal ignoring positions, the rules can be any
pub refilled_alike : (g : Grammar) → ((c : Class) (t u : Token) → SameLeaf c t u → accepts g c u ≡ accepts g c t)
    → ((k : ℕ) (s : SameTrees) → g.check k (right_tree s) ≡ g.check k (left_tree s)) → {e : Expr} {x : ParseTree} → Fits g e x → (us : List Token)
    → Alike us (leaves x) → Refilled g e x us
refilled_alike g good checks fits us h = refilled g true good checks (λ k. refl) fits refl us h
