use Rattle.std.proofs.Common.{sym, ap, ◌∙◌, map}
use Rattle.graphql_core.specs.{arguments_symbol, arguments_of, argument_view}
use Rattle.graphql_core.proofs.{arguments_list, begun_by, there, none_given, whole, fails_last, fills}
use Rattle.graphql_core.proofs.common.read.directives.optional_arguments.Goals as goal

pub returns-then-not-sees_punctuator : goal.returns-then-not-sees_punctuator
returns-then-not-sees_punctuator g c =
    none_given (begun_by arguments_list) (sym c.sees_punctuator.ensures ∙ c.if-not-sees_punctuator.true)
    (ap (map (argument_view g.S.Names.Names.bytes)) c.new.ensures.items)

pub returns-in_err-read_enclosed : goal.returns-in_err-read_enclosed
returns-in_err-read_enclosed g c =
    let lead = there (begun_by arguments_list) (sym c.sees_punctuator.ensures ∙ c.if-not-sees_punctuator.false) in
    let stops = c.in_err-read_enclosed.ensures.reads arguments_symbol arguments_of arguments_list in
    fails_last _ _ _ _ lead stops c.from_residual-in_err-read_enclosed.ensures.1

pub returns : goal.returns
returns g c =
    let (x, takes, adds) = c.in_ok-read_enclosed.ensures.reads arguments_symbol arguments_of arguments_list in
    let none = c.in_ok-arguments.ensures.items in
    whole (there (begun_by arguments_list) (sym c.sees_punctuator.ensures ∙ c.if-not-sees_punctuator.false)) takes
    (fills (argument_view g.S.Names.Names.bytes) _ _ _ none adds)
