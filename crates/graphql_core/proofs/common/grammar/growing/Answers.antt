use Rattle.graphql_core.proofs.{derives_on}
use Rattle.graphql_core.proofs.common.grammar.growing.Goals as goal

pub returns : goal.returns
returns c = record { on = derives_on }
