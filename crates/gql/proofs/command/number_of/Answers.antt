use Rattle.std.proofs.Common.{sym, ◌∙◌}
use Rattle.gql.proofs.{number_rejected}
use Rattle.gql.proofs.command.number_of.Goals as goal

pub returns-in-Err : goal.returns-in-Err
returns-in-Err c =
    let digits = sym c.has_only_digits.ensures ∙ c.if-not-has_only_digits.false in
    sym (number_rejected c.args.word.now c.parse.result c.in-Err.field-0 c.parse.ensures.value.0 c.in-Err.is digits)
