use Rattle.graphql_core.proofs.{one_each}
use Rattle.graphql_query.specs.{one_definition}
use Rattle.graphql_query.proofs.{readable_one}
use Rattle.graphql_query.proofs.laws.definition_errors_have_different_indexes.Goals as goal

pub returns : goal.returns
returns c = one_each one_definition readable_one
