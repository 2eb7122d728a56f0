use Rattle.graphql_core.specs.{directive_view}
use Rattle.graphql_walk.specs.{directive_branch}
use Rattle.graphql_walk.proofs.{each_as}
use Rattle.graphql_walk.proofs.values.walk_directives.Goals as goal

pub returns : goal.returns
returns g c = each_as g.V.Visitor.visited directive_branch (directive_view g.N.Names.bytes) _ _ _ c.args.directives.now c.walk_each.ensures
