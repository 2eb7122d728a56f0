-- The tests that two expressions are the same are correct.
use Rattle.std.proofs.Common.{◌≡◌, true, eqb, List, [], ◌∷◌, refl, ap, ap₂}
use Rattle.std.proofs.lemmas.Bool.{eqb-true, and_parts}
use Rattle.graphql_core.specs.{Class, Spelled, AnyOf, Except, same_spelling, Expr, Empty, One, Then, Either, Many}
use Rattle.graphql_core.specs.{Sym}
use Rattle.graphql_core.specs.theory.Classes.{same_spellings}
use Rattle.graphql_core.proofs.grammar.Classes.{same_spelling-true, same_spellings-true}
use Rattle.graphql_standard.specs.steps.Fitting.{same_class, same_expr, same_exprs}

pub same_class-true : (c d : Class) → same_class c d ≡ true → c ≡ d
same_class-true (Spelled k s) (Spelled l u) h =
    let p = and_parts (eqb k l) (same_spelling s u) h in ap₂ Spelled (eqb-true k l p.0) (same_spelling-true s u p.1)
same_class-true (AnyOf k) (AnyOf l) h = ap AnyOf (eqb-true k l h)
same_class-true (Except k ss) (Except l us) h =
    let p = and_parts (eqb k l) (same_spellings ss us) h in ap₂ Except (eqb-true k l p.0) (same_spellings-true ss us p.1)
same_class-true _ _ h = absurd cc

pub same_expr-true : (a b : Expr) → same_expr a b ≡ true → a ≡ b
same_expr-true Empty Empty h = refl
same_expr-true (One c) (One d) h = ap One (same_class-true c d h)
same_expr-true (Then a b) (Then c d) h =
    let p = and_parts (same_expr a c) (same_expr b d) h in ap₂ Then (same_expr-true a c p.0) (same_expr-true b d p.1)
same_expr-true (Either a b) (Either c d) h =
    let p = and_parts (same_expr a c) (same_expr b d) h in ap₂ Either (same_expr-true a c p.0) (same_expr-true b d p.1)
same_expr-true (Many a) (Many b) h = ap Many (same_expr-true a b h)
same_expr-true (Sym k) (Sym l) h = ap Sym (eqb-true k l h)
same_expr-true _ _ h = absurd cc

pub same_exprs-true : (es fs : List Expr) → same_exprs es fs ≡ true → es ≡ fs
same_exprs-true [] [] h = refl
same_exprs-true (a ∷ es) (b ∷ fs) h =
    let p = and_parts (same_expr a b) (same_exprs es fs) h in
    ap₂ (λ (x : Expr) (xs : List Expr). x ∷ xs) (same_expr-true a b p.0) (same_exprs-true es fs p.1)
same_exprs-true _ _ h = absurd cc
