use Rattle.std.proofs.Common.{sym, ap, ◌∙◌}
use Rattle.graphql_core.proofs.{leads_in, fails_last, whole}
use Rattle.graphql_query.specs.{fragment}
use Rattle.graphql_query.proofs.{operation_side, fragment_definition_side}
use Rattle.graphql_query.proofs.read.definition.definition.Goals as goal

pub returns-in_err-fragment_definition : goal.returns-in_err-fragment_definition
returns-in_err-fragment_definition g c =
    let side = fragment_definition_side _ (sym c.sees_keyword.ensures ∙ c.if-sees_keyword.true) in
    fails_last _ _ _ _ (leads_in side) c.in_err-fragment_definition.ensures c.from_residual.ensures.1

pub returns-then-sees_keyword : goal.returns-then-sees_keyword
returns-then-sees_keyword g c =
    let (x, takes, view) = c.in_ok-fragment_definition.ensures in
    whole (leads_in (fragment_definition_side _ (sym c.sees_keyword.ensures ∙ c.if-sees_keyword.true))) takes (ap fragment view)

pub returns-in_err-operation_definition : goal.returns-in_err-operation_definition
returns-in_err-operation_definition g c =
    let side = operation_side _ (sym c.sees_keyword.ensures ∙ c.if-sees_keyword.false) in
    fails_last _ _ _ _ (leads_in side) c.in_err-operation_definition.ensures c.from_residual-in_err-operation_definition.ensures.1

pub returns : goal.returns
returns g c =
    let (x, takes, view) = c.in_ok-operation_definition.ensures in
    whole (leads_in (operation_side _ (sym c.sees_keyword.ensures ∙ c.if-sees_keyword.false))) takes view
