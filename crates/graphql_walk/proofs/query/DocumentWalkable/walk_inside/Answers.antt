use Rattle.graphql_query.specs.Tree.{definition_view}
use Rattle.graphql_walk.specs.{definition_branch}
use Rattle.graphql_walk.proofs.{each_as}
use Rattle.graphql_walk.proofs.query.DocumentWalkable.walk_inside.Goals as goal

pub returns : goal.returns
returns g c =
    each_as g.V.Visitor.visited definition_branch (definition_view g.N.Names.bytes) _ _ _ c.args.self.now.definitions.items (rw c.deref.ensures.value at c.walk_each.ensures)
