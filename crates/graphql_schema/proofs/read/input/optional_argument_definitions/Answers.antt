use Rattle.std.proofs.Common.{refl}
use Rattle.graphql_schema.proofs.{argument_definitions_list}
use Rattle.graphql_schema.proofs.read.input.optional_argument_definitions.Goals as goal

pub returns : goal.returns
returns g c = c.optional_list.ensures _ _ _ argument_definitions_list (record { some = λ x. refl; none = refl })
