use Rattle.std.proofs.Common.{arith}
use Rattle.std.proofs.lemmas.Grind.{common_steps}
use Rattle.graphql_core.proofs.helpers.spans.SpanSourceTokenSource.peek.Goals as goal

pub returns-in_err-span-clause-next : goal.returns-in_err-span-clause-next
returns-in_err-span-clause-next g c = grind (arith, common_steps)

pub returns-clause-next : goal.returns-clause-next
returns-clause-next g c = grind (arith, common_steps)
