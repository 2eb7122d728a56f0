use Rattle.std.proofs.Common.{sym, ◌∙◌}
use Rattle.graphql_core.proofs.{some_from_parsed}
use Rattle.graphql_core.proofs.common.strings.quoted.hexadecimal.Goals as goal

pub returns : goal.returns
returns c =
    some_from_parsed c.args.digits.now _ _ c.requires
    (sym c.are_hexadecimal.ensures ∙ c.if-not-are_hexadecimal.false) c.ok.ensures.value c.from_str_radix.ensures.value
