use Rattle.graphql_walk.proofs.{returned, and_then, and_halted}
use Rattle.graphql_walk.proofs.query.walk_directives_and_set.Goals as goal

pub returns-in_err-walk_directives : goal.returns-in_err-walk_directives
returns-in_err-walk_directives g c = rw (returned _ _ c.from_residual.ensures.1) (and_halted g.V.Visitor.visited _ _ _ _ _ c.in_err-walk_directives.ensures)

pub returns : goal.returns
returns g c = and_then g.V.Visitor.visited _ _ _ _ _ _ c.in_ok-walk_directives.ensures c.walk_only_set.ensures
