use Rattle.std.proofs.Common.{[], ◌∷◌, refl, sym, ◌∙◌}
use Rattle.graphql_core.proofs.{Stops-before, Stops-after, none_given, took, taken_both, past, fails, lacks_last, whole}
use Rattle.graphql_schema.proofs.{turn_of, roots_begin, opens}
use Rattle.graphql_schema.proofs.read.schema.optional_roots.Goals as goal

pub returns-then-not-sees_punctuator : goal.returns-then-not-sees_punctuator
returns-then-not-sees_punctuator g c =
    none_given roots_begin (sym c.sees_punctuator.ensures ∙ c.if-not-sees_punctuator.true) c.no_roots-roots.ensures

pub returns-in_err-root_type : goal.returns-in_err-root_type
returns-in_err-root_type g c =
    let begun = opens roots_begin (λ x. refl) (sym c.sees_punctuator.ensures ∙ c.if-not-sees_punctuator.false) in
    fails _ _ _ _ (past begun (took c.in_ok-expect_punctuator.ensures.1 refl)) (Stops-before _ _ _ _ _ _ c.in_err-root_type.ensures)
    c.from_residual-in_err-root_type.ensures.1

pub returns-in_err-root_types : goal.returns-in_err-root_types
returns-in_err-root_types g c =
    let begun = opens roots_begin (λ x. refl) (sym c.sees_punctuator.ensures ∙ c.if-not-sees_punctuator.false) in
    fails _ _ _ _ (past begun (took c.in_ok-expect_punctuator.ensures.1 refl))
    (Stops-after _ _ _ _ _ _ _ _ c.in_ok-root_type.ensures.1 c.in_err-root_types.ensures) c.from_residual-in_err-root_types.ensures.1

pub returns-in_err-expect_punctuator-2 : goal.returns-in_err-expect_punctuator-2
returns-in_err-expect_punctuator-2 g c =
    let begun = opens roots_begin (λ x. refl) (sym c.sees_punctuator.ensures ∙ c.if-not-sees_punctuator.false) in
    let opened = past begun (took c.in_ok-expect_punctuator.ensures.1 refl) in
    let rooted = past opened (taken_both c.in_ok-root_type.ensures.1 c.in_ok-root_types.ensures.1) in
    lacks_last _ _ _ _ _ rooted c.in_err-expect_punctuator-2.ensures c.from_residual-in_err-expect_punctuator-2.ensures.1

pub returns : goal.returns
returns g c =
    let (x, taken, has) = c.in_ok-root_type.ensures in
    let (xs, more, all) = c.in_ok-root_types.ensures in
    let begun = opens roots_begin (λ x. refl) (sym c.sees_punctuator.ensures ∙ c.if-not-sees_punctuator.false) in
    whole (past (past begun (took c.in_ok-expect_punctuator.ensures.1 refl)) (taken_both taken more)) (took c.in_ok-expect_punctuator-2.ensures.1 refl)
    (all (turn_of x ∷ []) (has [] c.no_roots-roots.ensures))
