use Rattle.std.proofs.Common.{refl}
use Rattle.graphql_core.specs.{Nothing, takes_nothing}
use Rattle.graphql_schema.proofs.read.types.parts.Goals as goal

pub returns-in-Scalar : goal.returns-in-Scalar
returns-in-Scalar g c = rw c.in-Scalar.is (Nothing, (takes_nothing, refl), refl)
