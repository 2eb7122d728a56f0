-- Two grammars with the same leaves, each of whose rules is derived by the symbol of the other, derive the same lists.
use Rattle.std.proofs.Common.{◌≡◌, ◌≤◌, ◌<◌, ℕ, zero, suc, ◌+◌, Bool, true, false, ◌&&◌, List, [], ◌∷◌, ◌++◌, length, refl, sym, ap, subst, ◌∙◌, append-nil, arith}
use Rattle.std.proofs.Common.{◌⊎◌, inl, inr}
use Rattle.std.proofs.lemmas.Bool.{and_parts}
use Rattle.graphql_core.specs.{Token, Class, Expr, Sym, ParseTree, Row, Grammar, row, leaves, accepts}
use Rattle.graphql_core.specs.{Fits, fits_nothing, fits_leaf, fits_both, fits_first, fits_second, fits_stop, fits_more, fits_node}
use Rattle.graphql_core.specs.grammar.Trees.{row_at, no_row}
use Rattle.graphql_standard.specs.theory.Stack.{HasNoChecks}
use Rattle.graphql_standard.proofs.Included.{DerivesAll, derives_none, derives_one, AnyDerives, included, included-sound, fold_symbol, pick}

-- a parse tree of the expression with these leaves
abbrev pub Has : Grammar → Expr → List Token → Type 0
Has g e ts = (x : ParseTree) × Fits g e x × (ts ≡ leaves x)

pub alone : (g : Grammar) (e : Expr) (ts : List Token) → DerivesAll g (e ∷ []) ts → Has g e ts
alone g e ts (derives_one {x = x} p h derives_none) = (x, p, h ∙ append-nil (leaves x))

pub one : (g : Grammar) (e : Expr) (ts : List Token) → Has g e ts → DerivesAll g (e ∷ []) ts
one g e ts (x, p, h) = derives_one p (h ∙ sym (append-nil (leaves x))) derives_none

-- each rule of the one grammar is derived by the symbol of the other
abbrev pub HasRules : Grammar → Grammar → Type 0
HasRules g h = (k : ℕ) (ts : List Token) → Has h (row g k).rule ts → Has h (Sym k) ts

abbrev pub SameLeaves : Grammar → Grammar → Type 0
SameLeaves g h = (c : Class) (t : Token) → accepts g c t ≡ accepts h c t

module _ (g h : Grammar) (same : SameLeaves g h) (rules : HasRules g h) where
  pub carried : {e : Expr} {x : ParseTree} → Fits g e x → Has h e (leaves x)
  carried fits_nothing = (_, fits_nothing, refl)
  carried (fits_leaf {c = c} {t = t} p) = (_, fits_leaf (sym (same c t) ∙ p), refl)
  carried (fits_both {y = z} p q) =
      let (x, u, i) = carried p in
      let (y, v, j) = carried q in
      (_, fits_both u v, ap (λ (l : List Token). l ++ leaves z) i ∙ ap (λ (l : List Token). leaves x ++ l) j)
  carried (fits_first p) = let (x, u, i) = carried p in (_, fits_first u, i)
  carried (fits_second p) = let (x, u, i) = carried p in (_, fits_second u, i)
  carried fits_stop = (_, fits_stop, refl)
  carried (fits_more {y = z} p q) =
      let (x, u, i) = carried p in
      let (y, v, j) = carried q in
      (_, fits_more u v, ap (λ (l : List Token). l ++ leaves z) i ∙ ap (λ (l : List Token). leaves x ++ l) j)
  carried (fits_node {k = k} {x = x} p c) = rules k (leaves x) (carried p)

-- ---- rules that a test accepts

-- each rule, but for some symbols, is derived by the symbol of the other grammar
abbrev pub rules_included : Grammar → (ℕ → Bool) → ℕ → List Row → Bool
rules_included h but k [] = true
rules_included h but k (r ∷ rs) =
    elim (but k) [ true ↦ true | false ↦ included h 60 (r.rule ∷ []) ((Sym k ∷ []) ∷ []) ]
    && rules_included h but (k + 1) rs

one_of : (h : Grammar) (e : Expr) (ts : List Token) → AnyDerives h ((e ∷ []) ∷ []) ts → DerivesAll h (e ∷ []) ts
one_of h e ts (inl d) = d
one_of h e ts (inr d) = absurd d

rule_tested : (h : Grammar) (but : ℕ → Bool) (base j : ℕ) (rs : List Row) → rules_included h but base rs ≡ true → j < length rs
    → but (base + j) ≡ false → included h 60 ((row_at rs j).rule ∷ []) ((Sym (base + j) ∷ []) ∷ []) ≡ true
rule_tested h but base j [] t l f = absurd (omega (arith, l))
rule_tested h but base zero (r ∷ rs) t l f =
    let p = (and_parts (elim (but base) [ true ↦ true | false ↦ included h 60 (r.rule ∷ []) ((Sym base ∷ []) ∷ []) ])
    (rules_included h but (base + 1) rs) t).0 in
    let e : base + 0 ≡ base = omega arith in
    subst (λ (i : ℕ). included h 60 (r.rule ∷ []) ((Sym i ∷ []) ∷ []) ≡ true) (sym e)
    (of (but base) (subst (λ (i : ℕ). but i ≡ false) e f) p)
  where
    of : (b : Bool) → b ≡ false → elim b [ true ↦ true | false ↦ included h 60 (r.rule ∷ []) ((Sym base ∷ []) ∷ []) ] ≡ true
        → included h 60 (r.rule ∷ []) ((Sym base ∷ []) ∷ []) ≡ true
    of true e k = absurd cc
    of false e k = k
rule_tested h but base (suc j) (r ∷ rs) t l f =
    let e : (base + 1) + j ≡ base + suc j = omega arith in
    let p = (and_parts (elim (but base) [ true ↦ true | false ↦ included h 60 (r.rule ∷ []) ((Sym base ∷ []) ∷ []) ])
    (rules_included h but (base + 1) rs) t).1 in
    subst (λ (i : ℕ). included h 60 ((row_at rs j).rule ∷ []) ((Sym i ∷ []) ∷ []) ≡ true) e
    (rule_tested h but (base + 1) j rs p (omega (arith, l)) (subst (λ (i : ℕ). but i ≡ false) (sym e) f))

no_row_at : (rs : List Row) (k : ℕ) → length rs ≤ k → row_at rs k ≡ no_row
no_row_at [] k l = refl
no_row_at (r ∷ rs) zero l = absurd (omega (arith, l))
no_row_at (r ∷ rs) (suc k) l = no_row_at rs k (omega (arith, l))

within_or_past : (i m : ℕ) → (i < m) ⊎ (m ≤ i)
within_or_past i zero = inr (omega arith)
within_or_past zero (suc m) = inl (omega arith)
within_or_past (suc i) (suc m) =
    pick (λ l. inl (omega (arith, l))) (λ l. inr (omega (arith, l))) (within_or_past i m)

pub has_rule : (g h : Grammar) → HasNoChecks h → (but : ℕ → Bool) → rules_included h but 0 g.rows ≡ true → length g.rows ≡ length h.rows
    → (k : ℕ) → but k ≡ false → (ts : List Token) → Has h (row g k).rule ts → Has h (Sym k) ts
has_rule g h ok but t n k f ts d = of (within_or_past k (length g.rows))
  where
    of : (k < length g.rows) ⊎ (length g.rows ≤ k) → Has h (Sym k) ts
    of (inl l) =
        let e : 0 + k ≡ k = omega arith in
        let tested : included h 60 ((row g k).rule ∷ []) ((Sym k ∷ []) ∷ []) ≡ true =
        subst (λ (i : ℕ). included h 60 ((row g k).rule ∷ []) ((Sym i ∷ []) ∷ []) ≡ true) e
        (rule_tested h but 0 k g.rows t l (subst (λ (i : ℕ). but i ≡ false) (sym e) f)) in
        alone h (Sym k) ts (one_of h (Sym k) ts
        (included-sound h ok 60 ((row g k).rule ∷ []) ((Sym k ∷ []) ∷ []) ts tested
        (one h (row g k).rule ts d)))
    of (inr l) =
        let e : (row g k).rule ≡ (row h k).rule =
        ap (λ (r : Row). r.rule) (no_row_at g.rows k l) ∙ sym (ap (λ (r : Row). r.rule) (no_row_at h.rows k (omega (arith, l, n)))) in
        alone h (Sym k) ts (fold_symbol h ok k [] ts
        (subst (λ (i : Expr). DerivesAll h (i ∷ []) ts) e (one h (row g k).rule ts d)))
