use Rattle.std.proofs.Common.{refl}
use Rattle.graphql_c.proofs.call_result.of_offset.Goals as goal

pub returns-in-Ok : goal.returns-in-Ok
returns-in-Ok c = rw c.in-Ok.is (c.in-Ok.offset, refl, refl, refl)
