use Rattle.std.proofs.Common.{drop, map}
use Rattle.graphql_walk.specs.{branch, branches_of}
use Rattle.graphql_walk.proofs.Walked.{Ends}
use Rattle.graphql_walk.proofs.walkable.walk_each.Given as goal

abbrev pub invariant-trees : goal.invariant-trees
invariant-trees g l =
    let w = g.T.Walkable in
    Ends g.V.Visitor.visited (branches_of (map (λ t. branch (w.node_of t) (w.inside_of t)) (drop l.tree-index l.trees))) l.visitor
    (branches_of (map (λ t. branch (w.node_of t) (w.inside_of t)) l.trees)) l.fn.visitor
