use Rattle.std.proofs.Common.{arith, refl, ap, Ok, Err, true, false}
use Rattle.std.proofs.lemmas.List.{at_drop_all}
use Rattle.graphql_core.specs.values.ValueViews.{items_view, members_view}
use Rattle.graphql_walk.specs.{items_branches, fields_branches}
use Rattle.graphql_walk.proofs.{returned, skipped, not_entered, halted, left_after, first_left, one_more, one_halted, none_left}
use Rattle.graphql_walk.proofs.values.+value.Goals as goal

-- ---- values

pub walk_value-returns-in_err-enter : goal.walk_value-returns-in_err-enter
walk_value-returns-in_err-enter g t c =
    rw (returned _ _ c.from_residual.ensures.1) (not_entered g.V.Visitor.visited _ _ _ _ _ c.in_err-enter.ensures)

pub walk_value-returns-then-not-branch : goal.walk_value-returns-then-not-branch
walk_value-returns-then-not-branch g t c =
    skipped g.V.Visitor.visited _ _ _ _ (rw c.if-not-branch.true at c.in_ok-enter.ensures)

pub walk_value-returns-in_err-walk_in_value : goal.walk_value-returns-in_err-walk_in_value
walk_value-returns-in_err-walk_in_value g t c =
    rw (returned _ _ c.from_residual-in_err-walk_in_value.ensures.1)
    (halted g.V.Visitor.visited _ _ _ _ _ _ (rw c.if-not-branch.false at c.in_ok-enter.ensures) c.in_err-walk_in_value.ensures)

pub walk_value-returns : goal.walk_value-returns
walk_value-returns g t c =
    left_after g.V.Visitor.visited _ _ _ _ _ _ _ (rw c.if-not-branch.false at c.in_ok-enter.ensures) c.in_ok-walk_in_value.ensures c.leave.ensures

-- ---- lists

pub walk_items-items-preserved : goal.walk_items-items-preserved
walk_items-items-preserved g t c =
    let l = c.items in
    let e = first_left (λ xs. items_branches (items_view g.N.Names.bytes xs)) c.args.items.now l.item-index c.item-item.result _ (omega arith) c.item-item.is refl in
    one_more g.V.Visitor.visited _ _ _ _ _ _ e l.invariant _ c.in_ok-walk_value.ensures

pub walk_items-returns-in_err-walk_value : goal.walk_items-returns-in_err-walk_value
walk_items-returns-in_err-walk_value g t c =
    let l = c.items in
    let e = first_left (λ xs. items_branches (items_view g.N.Names.bytes xs)) c.args.items.now l.item-index c.item-item.result _ (omega arith) c.item-item.is refl in
    rw (returned _ _ c.from_residual.ensures.1) (one_halted g.V.Visitor.visited _ _ _ _ _ _ e l.invariant _ _ c.in_err-walk_value.ensures)

pub walk_items-returns : goal.walk_items-returns
walk_items-returns g t c =
    let l = c.items in
    none_left g.V.Visitor.visited _ _ _ _ (at_drop_all (λ xs. items_branches (items_view g.N.Names.bytes xs)) c.args.items.now l.item-index (omega arith)) l.invariant

-- ---- objects

pub walk_members-members-preserved : goal.walk_members-members-preserved
walk_members-members-preserved g t c =
    let l = c.members in
    let e = ap (λ ms. fields_branches (members_view g.N.Names.bytes ms)) c.in-Some.ensures.steps in
    one_more g.V.Visitor.visited _ _ _ _ _ _ e l.invariant _ c.in_ok-walk_pair.ensures

pub walk_members-returns-in_err-walk_pair : goal.walk_members-returns-in_err-walk_pair
walk_members-returns-in_err-walk_pair g t c =
    let l = c.members in
    let e = ap (λ ms. fields_branches (members_view g.N.Names.bytes ms)) c.in-Some.ensures.steps in
    rw (returned _ _ c.from_residual.ensures.1) (one_halted g.V.Visitor.visited _ _ _ _ _ _ e l.invariant _ _ c.in_err-walk_pair.ensures)

pub walk_members-returns : goal.walk_members-returns
walk_members-returns g t c =
    none_left g.V.Visitor.visited _ _ _ _ (ap (λ ms. fields_branches (members_view g.N.Names.bytes ms)) c.in-None.ensures.steps.0) c.members.invariant

-- ---- names with values

pub walk_pair-returns-in_err-enter : goal.walk_pair-returns-in_err-enter
walk_pair-returns-in_err-enter g t c = rw (returned _ _ c.from_residual.ensures.1) (Err _, _, c.in_err-enter.ensures, (refl, refl))

pub walk_pair-returns-then-not-branch : goal.walk_pair-returns-then-not-branch
walk_pair-returns-then-not-branch g t c = (Ok false, _, rw c.if-not-branch.true at c.in_ok-enter.ensures, (refl, refl))

pub walk_pair-returns-in_err-walk_value : goal.walk_pair-returns-in_err-walk_value
walk_pair-returns-in_err-walk_value g t c =
    let entered = rw c.if-not-branch.false at c.in_ok-enter.ensures in
    rw (returned _ _ c.from_residual-in_err-walk_value.ensures.1)
    (Ok true, _, entered, (Err _, _, (Err _, _, c.in_err-walk_value.ensures, (refl, refl)), (refl, refl)))

pub walk_pair-returns : goal.walk_pair-returns
walk_pair-returns g t c =
    let entered = rw c.if-not-branch.false at c.in_ok-enter.ensures in
    (Ok true, _, entered, (Ok tt, _, (Ok tt, _, c.in_ok-walk_value.ensures, (refl, refl)), c.leave.ensures))
