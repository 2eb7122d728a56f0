use Rattle.graphql_walk.proofs.{returned, skipped, not_entered, halted, left_after}
use Rattle.graphql_walk.proofs.values.+declared.Goals as goal

pub walk_type-returns-in_err-enter : goal.walk_type-returns-in_err-enter
walk_type-returns-in_err-enter g t c =
    rw (returned _ _ c.from_residual.ensures.1) (not_entered g.V.Visitor.visited _ _ _ _ _ c.in_err-enter.ensures)

pub walk_type-returns-then-not-branch : goal.walk_type-returns-then-not-branch
walk_type-returns-then-not-branch g t c =
    skipped g.V.Visitor.visited _ _ _ _ (rw c.if-not-branch.true at c.in_ok-enter.ensures)

pub walk_type-returns-in_err-walk_in_type : goal.walk_type-returns-in_err-walk_in_type
walk_type-returns-in_err-walk_in_type g t c =
    rw (returned _ _ c.from_residual-in_err-walk_in_type.ensures.1)
    (halted g.V.Visitor.visited _ _ _ _ _ _ (rw c.if-not-branch.false at c.in_ok-enter.ensures) c.in_err-walk_in_type.ensures)

pub walk_type-returns : goal.walk_type-returns
walk_type-returns g t c =
    left_after g.V.Visitor.visited _ _ _ _ _ _ _ (rw c.if-not-branch.false at c.in_ok-enter.ensures) c.in_ok-walk_in_type.ensures c.leave.ensures
