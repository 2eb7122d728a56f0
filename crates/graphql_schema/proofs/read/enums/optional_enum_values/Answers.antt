use Rattle.std.proofs.Common.{refl}
use Rattle.graphql_schema.proofs.{enum_values_list}
use Rattle.graphql_schema.proofs.read.enums.optional_enum_values.Goals as goal

pub returns : goal.returns
returns g c = c.optional_split_list.ensures _ _ _ enum_values_list (record { some = λ x. refl; none = refl })
