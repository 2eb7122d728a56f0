use Rattle.std.proofs.Common.{refl, sym, ap, ◌∙◌}
use Rattle.graphql_core.specs.{optional_non_null, named, list_of, type_view}
use Rattle.graphql_core.proofs.{named_side, list_type_side, leads_in, took, past, after, gives_led, fails, lacks, named_made, list_type_made}
use Rattle.graphql_core.proofs.common.read.types.+type_reference.Goals as goal

pub returns-in_err-items : goal.returns-in_err-items
returns-in_err-items g t c =
    let side = leads_in (list_type_side _ (sym c.sees_punctuator.ensures ∙ c.if-sees_punctuator.true)) in
    fails _ _ _ _ (past side (took c.in_ok-expect_punctuator.ensures.1 refl)) c.in_err-items.ensures c.from_residual-in_err-items.ensures.1

pub returns-in_err-expect_punctuator-2 : goal.returns-in_err-expect_punctuator-2
returns-in_err-expect_punctuator-2 g t c =
    let side = leads_in (list_type_side _ (sym c.sees_punctuator.ensures ∙ c.if-sees_punctuator.true)) in
    lacks _ _ _ _ _ (after (past side (took c.in_ok-expect_punctuator.ensures.1 refl)) c.in_ok-items.ensures) c.in_err-expect_punctuator-2.ensures
    c.from_residual-in_err-expect_punctuator-2.ensures.1

pub returns-in_err-name : goal.returns-in_err-name
returns-in_err-name g t c =
    let side = leads_in (named_side _ (sym c.sees_punctuator.ensures ∙ c.if-sees_punctuator.false)) in
    lacks _ _ _ _ _ side c.in_err-name.ensures c.from_residual-in_err-name.ensures.1

pub returns-then-sees_punctuator : goal.returns-then-sees_punctuator
returns-then-sees_punctuator g t c =
    let bytes = g.S.Names.Names.bytes in
    let (x, takes, view) = c.in_ok-items.ensures in
    let side = leads_in (list_type_side _ (sym c.sees_punctuator.ensures ∙ c.if-sees_punctuator.true)) in
    let listed = past (past side (took c.in_ok-expect_punctuator.ensures.1 refl)) takes in
    gives_led _ _ _ _ (past listed (took c.in_ok-expect_punctuator-2.ensures.1 refl))
    (λ v m h is. is ∙ ap (optional_non_null m) (list_type_made _ _ bytes _ ∙ ap list_of (ap (type_view bytes) c.in_ok-new.ensures.ok ∙ view)))
    c.optional_non_null.ensures

pub returns : goal.returns
returns g t c =
    let side = leads_in (named_side _ (sym c.sees_punctuator.ensures ∙ c.if-sees_punctuator.false)) in
    let (n, takes, spelled) = c.in_ok-name.ensures in
    gives_led _ _ _ _ (past side (took takes refl))
    (λ v m h is. is ∙ ap (optional_non_null m) (named_made _ _ g.S.Names.Names.bytes _ ∙ ap named (sym spelled))) c.optional_non_null-2.ensures
