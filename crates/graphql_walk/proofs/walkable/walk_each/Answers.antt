use Rattle.std.proofs.Common.{arith, map, refl}
use Rattle.std.proofs.lemmas.List.{at_drop_all}
use Rattle.graphql_walk.specs.{branch, branches_of}
use Rattle.graphql_walk.proofs.{returned, first_left, one_more, one_halted, none_left}
use Rattle.graphql_walk.proofs.walkable.walk_each.Goals as goal

pub trees-preserved : goal.trees-preserved
trees-preserved g c =
    let w = g.T.Walkable in
    let l = c.trees in
    let e = first_left (λ xs. branches_of (map (λ t. branch (w.node_of t) (w.inside_of t)) xs)) c.args.trees.now l.tree-index c.tree-item.result _
    (omega arith) c.tree-item.is refl in
    one_more g.V.Visitor.visited _ _ _ _ _ _ e l.invariant _ c.in_ok-walk.ensures

pub returns-in_err-walk : goal.returns-in_err-walk
returns-in_err-walk g c =
    let w = g.T.Walkable in
    let l = c.trees in
    let e = first_left (λ xs. branches_of (map (λ t. branch (w.node_of t) (w.inside_of t)) xs)) c.args.trees.now l.tree-index c.tree-item.result _
    (omega arith) c.tree-item.is refl in
    rw (returned _ _ c.from_residual.ensures.1) (one_halted g.V.Visitor.visited _ _ _ _ _ _ e l.invariant _ _ c.in_err-walk.ensures)

pub returns : goal.returns
returns g c =
    let w = g.T.Walkable in
    let l = c.trees in
    none_left g.V.Visitor.visited _ _ _ _
    (at_drop_all (λ xs. branches_of (map (λ t. branch (w.node_of t) (w.inside_of t)) xs)) c.args.trees.now l.tree-index (omega arith)) l.invariant
