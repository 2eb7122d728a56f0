use Rattle.graphql_walk.proofs.{returned, skipped, not_entered, halted, left_after}
use Rattle.graphql_walk.proofs.walkable.walk.Goals as goal

pub returns-in_err-enter : goal.returns-in_err-enter
returns-in_err-enter g c =
    rw (returned _ _ c.from_residual.ensures.1) (not_entered g.V.Visitor.visited _ _ _ _ _ (rw c.node-node.ensures at c.in_err-enter.ensures))

pub returns-then-not-branch : goal.returns-then-not-branch
returns-then-not-branch g c =
    skipped g.V.Visitor.visited _ _ _ _ (rw (c.node-node.ensures, c.if-not-branch.true) at c.in_ok-enter.ensures)

pub returns-in_err-walk_inside : goal.returns-in_err-walk_inside
returns-in_err-walk_inside g c =
    rw (returned _ _ c.from_residual-in_err-walk_inside.ensures.1)
    (halted g.V.Visitor.visited _ _ _ _ _ _ (rw (c.node-node.ensures, c.if-not-branch.false) at c.in_ok-enter.ensures) c.in_err-walk_inside.ensures)

pub returns : goal.returns
returns g c =
    left_after g.V.Visitor.visited _ _ _ _ _ _ _ (rw (c.node-node.ensures, c.if-not-branch.false) at c.in_ok-enter.ensures) c.in_ok-walk_inside.ensures (rw c.node-node.ensures at c.leave.ensures)
