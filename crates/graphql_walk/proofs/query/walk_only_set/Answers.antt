use Rattle.graphql_query.specs.Tree.{selection_set_view}
use Rattle.graphql_walk.specs.{selection_set_branch}
use Rattle.graphql_walk.proofs.{only_one}
use Rattle.graphql_walk.proofs.query.walk_only_set.Goals as goal

pub returns : goal.returns
returns g c = only_one g.V.Visitor.visited (selection_set_branch (selection_set_view g.N.Names.bytes c.args.set.now)) _ _ _ c.walk_selection_set.ensures
