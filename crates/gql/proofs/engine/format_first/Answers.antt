use Rattle.std.proofs.Common.{◌∙◌, ◌++◌, ap, subst, sym}
use Rattle.std.proofs.lemmas.Result.{IfOk-at_ok, IfOk-weaker, IfErr-weaker, MatchResult-from_both}
use Rattle.graphql_core.specs.contracts.common.text.RefStrNames.TheImpl as names
use Rattle.graphql_query.specs.{layout, IsTooWide, definitions_view, one_definition, IsFirstDefinition}
use Rattle.graphql_parser.proofs.Mapped.{at_passed, mapped, returned}
use Rattle.gql.specs.{EndsEngine}
use Rattle.gql.specs.declared.command.Command.TheVariants.{First}
use Rattle.gql.specs.declared.error.RunError.TheVariants as error
use Rattle.gql.proofs.{not_formatted}
use Rattle.graphql_core.proofs.{has_none, not_long, not_wide}
use Rattle.gql.proofs.engine.format_first.Goals as goal

pub returns-in_err-definition : goal.returns-in_err-definition
returns-in_err-definition c =
    let ends = EndsEngine First c.args.style.now c.args.text.now in
    let consumed = c.consume_definition.ensures in
    let none = has_none IsFirstDefinition one_definition _ c.args.text.now c.consume_definition.result consumed.first_error consumed.complete in
    returned _ _ ends c.in_err-definition.was (mapped _ _ error.Query _ ends c.map_err.ensures.cases none) c.from_residual.ensures.1

pub returns-in_err-document : goal.returns-in_err-document
returns-in_err-document c =
    let ends = EndsEngine First c.args.style.now c.args.text.now in
    let first = at_passed _ _ _ c.map_err.ensures.cases c.map_err.ensures.variant c.in_ok-definition.was c.consume_definition.ensures.first in
    returned _ _ ends c.in_err-document.was (IfErr-weaker c.alone.result _ ends (λ e is. subst ends (sym is) (_, first)) c.alone.ensures.err)
    c.from_residual-in_err-document.ensures.1

pub returns-in_err-output : goal.returns-in_err-output
returns-in_err-output c =
    let ends = EndsEngine First c.args.style.now c.args.text.now in
    let first = at_passed _ _ _ c.map_err.ensures.cases c.map_err.ensures.variant c.in_ok-definition.was c.consume_definition.ensures.first in
    let alone = IfOk-at_ok _ c.in_ok-document.was c.alone.ensures.ok in
    let consumed = c.consume_definition in
    let short = at_passed _ _ _ c.map_err.ensures.cases c.map_err.ensures.variant c.in_ok-definition.was
    (not_long _ consumed.result consumed.ensures.too_long) in
    let wide = not_formatted First c.args.style.now c.args.text.now c.format.result short (_, first)
    (λ is.
    let too_wide = c.format.ensures.too_wide.0 is in
    (_, first, subst (λ ds. IsTooWide c.args.style.now (definitions_view names.ghosts.bytes ds)) alone too_wide)) in
    returned _ _ ends c.in_err-output.was (mapped _ _ error.Format _ ends c.map_err-2.ensures.cases wide) c.from_residual-in_err-output.ensures.1

pub returns : goal.returns
returns c =
    let ends = EndsEngine First c.args.style.now c.args.text.now in
    let first = at_passed _ _ _ c.map_err.ensures.cases c.map_err.ensures.variant c.in_ok-definition.was c.consume_definition.ensures.first in
    let alone = IfOk-at_ok _ c.in_ok-document.was c.alone.ensures.ok in
    let text = at_passed _ _ _ c.map_err-2.ensures.cases c.map_err-2.ensures.variant c.in_ok-output.was c.format.ensures.text in
    let is = text ∙ ap (λ ds. layout c.args.style.now (definitions_view names.ghosts.bytes ds)) alone in
    let consumed = c.consume_definition in
    let short = at_passed _ _ _ c.map_err.ensures.cases c.map_err.ensures.variant c.in_ok-definition.was
    (not_long _ consumed.result consumed.ensures.too_long) in
    let narrow = at_passed _ _ _ c.map_err-2.ensures.cases c.map_err-2.ensures.variant c.in_ok-output.was
    (not_wide c.format.result c.format.ensures.too_wide.1) in
    MatchResult-from_both c.with_rest.result _ ends
    (IfOk-weaker c.with_rest.result _ _
    (λ s bytes. (
      short,
      (
        _,
        (
          first,
          λ wide.
              narrow (subst (λ ds. IsTooWide c.args.style.now (definitions_view names.ghosts.bytes ds)) (sym alone) wide),
        ),
        bytes ∙ ap (λ text. text ++ c.in_ok-definition.rest.now) is,
      ),
    )) c.with_rest.ensures.ok)
    (IfErr-weaker c.with_rest.result _ ends (λ e is. subst ends (sym is) (_, first)) c.with_rest.ensures.err)
