-- Factored rules of which most are the written ones.
use Rattle.std.proofs.Common.{◌≡◌, ℕ, zero, suc, Bool, true, false, ◌&&◌, eqb, List, [], ◌∷◌, ◌++◌, drop, replicate, refl, ap, ap₂, subst}
use Rattle.std.proofs.lemmas.Bool.{eqb-true, and_parts}
use Rattle.graphql_core.specs.{Class, Spelled, AnyOf, Except, same_spelling, same_spellings, Expr, Empty, One, Then, Either, Many, Sym, Row, Grammar}
use Rattle.graphql_core.specs.{same_class, same_rule, Change, unchanged, IsFactored, AreFactored}
use Rattle.graphql_core.proofs.grammar.{same_spelling-true, same_spellings-true}
use Rattle.graphql_core.proofs.rules.FactoredRules.{IsFactored-unchanged}

-- ---- the test that two expressions are the same

same_class-true : (c d : Class) → same_class c d ≡ true → c ≡ d
same_class-true (Spelled k s) (Spelled j u) h =
    let p = and_parts (eqb k j) (same_spelling s u) h in
    ap₂ Spelled (eqb-true k j p.0) (same_spelling-true s u p.1)
same_class-true (AnyOf k) (AnyOf j) h = ap AnyOf (eqb-true k j h)
same_class-true (Except k ss) (Except j us) h =
    let p = and_parts (eqb k j) (same_spellings ss us) h in
    ap₂ Except (eqb-true k j p.0) (same_spellings-true ss us p.1)
same_class-true _ _ h = absurd cc

pub same_rule-true : (a b : Expr) → same_rule a b ≡ true → a ≡ b
same_rule-true Empty Empty h = refl
same_rule-true (One c) (One d) h = ap One (same_class-true c d h)
same_rule-true (Then a b) (Then c d) h =
    let p = and_parts (same_rule a c) (same_rule b d) h in
    ap₂ Then (same_rule-true a c p.0) (same_rule-true b d p.1)
same_rule-true (Either a b) (Either c d) h =
    let p = and_parts (same_rule a c) (same_rule b d) h in
    ap₂ Either (same_rule-true a c p.0) (same_rule-true b d p.1)
same_rule-true (Many a) (Many b) h = ap Many (same_rule-true a b h)
same_rule-true (Sym j) (Sym k) h = ap Sym (eqb-true j k h)
same_rule-true _ _ h = absurd cc

-- ---- rows

-- the first n rows have the same rules
abbrev pub same_rules : ℕ → List Row → List Row → Bool
same_rules zero ws rs = true
same_rules (suc n) (w ∷ ws) (r ∷ rs) = same_rule w.rule r.rule && same_rules n ws rs
same_rules _ _ _ = false

module _ (g : Grammar) (rs : List Row) (cs : List Change) where
  -- n rows that are read as they are written, and others after them
  pub unchanged_then : (n : ℕ) (ws more : List Row) (others : List Change) → same_rules n ws more ≡ true
      → AreFactored g rs cs (drop n ws) (drop n more) others
      → AreFactored g rs cs ws more (replicate n unchanged ++ others)
  unchanged_then zero ws more others h after = after
  unchanged_then (suc n) (w ∷ ws) (r ∷ more) others h after =
      let p = and_parts (same_rule w.rule r.rule) (same_rules n ws more) h in (
        subst (λ (e : Expr). IsFactored g rs cs w.rule e unchanged) (same_rule-true w.rule r.rule p.0) (IsFactored-unchanged g rs cs w.rule),
        unchanged_then n ws more others p.1 after,
      )
  unchanged_then (suc n) [] more others h after = absurd cc
  unchanged_then (suc n) (w ∷ ws) [] others h after = absurd cc
