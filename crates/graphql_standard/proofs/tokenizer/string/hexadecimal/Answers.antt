use Rattle.std.proofs.Common.{sym, ◌∙◌}
use Rattle.graphql_standard.proofs.lexical.Escapes.{none_from_parsed}
use Rattle.graphql_standard.proofs.tokenizer.string.hexadecimal.Goals as goal

pub returns-clause-none : goal.returns-clause-none
returns-clause-none c =
    none_from_parsed c.args.digits.now _ _ (sym c.are_hexadecimal.ensures ∙ c.if-not-are_hexadecimal.false) c.ok.ensures.value c.from_str_radix.ensures.value
