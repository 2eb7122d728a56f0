use Rattle.graphql_core.proofs.strings.Escapes as escapes
use Rattle.graphql_core.proofs.common.laws.one_value.Goals as goal

pub returns : goal.returns
returns c = escapes.one_value
