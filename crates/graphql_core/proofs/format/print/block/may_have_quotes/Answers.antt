use Rattle.std.proofs.Common.{arith}
use Rattle.std.proofs.lemmas.Bool.Decides.{nat_tests}
use Rattle.graphql_core.proofs.{plain_unquoted}
use Rattle.graphql_core.proofs.format.print.block.may_have_quotes.Goals as goal

pub returns : goal.returns
returns c = λ none. plain_unquoted c.args.line.now (grind (arith, nat_tests, c.class_prefix_len.ensures.len, c.as_bytes.ensures.value, none))
