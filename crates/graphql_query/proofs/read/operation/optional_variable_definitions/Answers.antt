use Rattle.std.proofs.Common.{refl}
use Rattle.graphql_query.proofs.{variable_definitions_list}
use Rattle.graphql_query.proofs.read.operation.optional_variable_definitions.Goals as goal

pub returns : goal.returns
returns g c = c.optional_list.ensures _ _ _ variable_definitions_list (record { some = λ x. refl; none = refl })
