use Rattle.std.proofs.Common.{refl, Ok, Err}
use Rattle.graphql_walk.proofs.{returned}
use Rattle.graphql_walk.proofs.query.walk_in_fragment.Goals as goal

pub returns-in_err-walk : goal.returns-in_err-walk
returns-in_err-walk g c = rw (returned _ _ c.from_residual.ensures.1) (Err _, _, c.in_err-walk.ensures, (refl, refl))

pub returns : goal.returns
returns g c = (Ok tt, _, c.in_ok-walk.ensures, rw c.deref.ensures.value at c.walk_directives_and_set.ensures)
