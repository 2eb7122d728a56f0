use Rattle.std.proofs.Common.{refl}
use Rattle.graphql_schema.proofs.{input_fields_list}
use Rattle.graphql_schema.proofs.read.input.optional_input_fields.Goals as goal

pub returns : goal.returns
returns g c = c.optional_split_list.ensures _ _ _ input_fields_list (record { some = λ x. refl; none = refl })
