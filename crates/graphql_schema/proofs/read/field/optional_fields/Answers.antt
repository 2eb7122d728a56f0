use Rattle.std.proofs.Common.{refl}
use Rattle.graphql_schema.proofs.{fields_list}
use Rattle.graphql_schema.proofs.read.field.optional_fields.Goals as goal

pub returns : goal.returns
returns g c = c.optional_split_list.ensures _ _ _ fields_list (record { some = λ x. refl; none = refl })
