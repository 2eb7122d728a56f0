use Rattle.graphql_query.proofs.{one_first}
use Rattle.graphql_query.proofs.laws.first_definition_is_unique.Goals as goal

pub returns : goal.returns
returns c = one_first
