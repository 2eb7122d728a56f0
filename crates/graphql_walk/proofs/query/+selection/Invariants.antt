use Rattle.std.proofs.Common.{drop}
use Rattle.graphql_query.specs.Tree.{selections_view}
use Rattle.graphql_walk.specs.{selections_branches}
use Rattle.graphql_walk.proofs.Walked.{Ends}
use Rattle.graphql_walk.proofs.query.+selection.Given as goal

abbrev pub invariant-walk_selections-selections : goal.invariant-walk_selections-selections
invariant-walk_selections-selections g l =
    Ends g.V.Visitor.visited (selections_branches (selections_view g.N.Names.bytes (drop l.selection-index l.selections))) l.visitor
    (selections_branches (selections_view g.N.Names.bytes l.selections)) l.fn.visitor
