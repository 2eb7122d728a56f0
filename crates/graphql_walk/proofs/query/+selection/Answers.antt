use Rattle.std.proofs.Common.{arith, refl, sym, ◌∙◌}
use Rattle.std.proofs.lemmas.List.{at_drop_all}
use Rattle.graphql_query.specs.Tree.{selections_view, selection_set_view, type_condition_view}
use Rattle.graphql_query.specs.declared.tree.SelectionSet.{the_lemmas}
use Rattle.graphql_query.proofs.layouts.LayoutTexts.{field_parts, inline_fragment_parts, no_items, some_items}
use Rattle.graphql_walk.specs.{selections_branches, selection_set_branch, condition_branch}
use Rattle.graphql_walk.proofs.{returned, skipped, not_entered, halted, left_after, only_one, first_left, one_more, one_halted, none_left}
use Rattle.graphql_walk.proofs.{and_then, and_halted, optional_as, inside_set_of, selected_none, selected_some}
use Rattle.graphql_walk.proofs.query.+selection.Goals as goal

-- ---- selection sets

pub walk_selection_set-walk_selections-requires : goal.walk_selection_set-walk_selections-requires
walk_selection_set-walk_selections-requires g t c κs within = rw c.deref.ensures.value (grind (arith, the_lemmas))

pub walk_selection_set-returns-in_err-enter : goal.walk_selection_set-returns-in_err-enter
walk_selection_set-returns-in_err-enter g t c =
    rw (returned _ _ c.from_residual.ensures.1) (not_entered g.V.Visitor.visited _ _ _ _ _ c.in_err-enter.ensures)

pub walk_selection_set-returns-then-not-branch : goal.walk_selection_set-returns-then-not-branch
walk_selection_set-returns-then-not-branch g t c =
    skipped g.V.Visitor.visited _ _ _ _ (rw c.if-not-branch.true at c.in_ok-enter.ensures)

pub walk_selection_set-returns-in_err-walk_selections : goal.walk_selection_set-returns-in_err-walk_selections
walk_selection_set-returns-in_err-walk_selections g t c =
    rw (returned _ _ c.from_residual-in_err-walk_selections.ensures.1)
    (halted g.V.Visitor.visited _ _ _ _ _ _ (rw c.if-not-branch.false at c.in_ok-enter.ensures) (inside_set_of g.N.Names.bytes g.V.Visitor.visited c.args.set.now _ _ _ (rw c.deref.ensures.value at c.in_err-walk_selections.ensures)))

pub walk_selection_set-returns : goal.walk_selection_set-returns
walk_selection_set-returns g t c =
    left_after g.V.Visitor.visited _ _ _ _ _ _ _ (rw c.if-not-branch.false at c.in_ok-enter.ensures) (inside_set_of g.N.Names.bytes g.V.Visitor.visited c.args.set.now _ _ _ (rw c.deref.ensures.value at c.in_ok-walk_selections.ensures)) c.leave.ensures

pub walk_selections-selections-preserved : goal.walk_selections-selections-preserved
walk_selections-selections-preserved g t c =
    let l = c.selections in
    let e = first_left (λ xs. selections_branches (selections_view g.N.Names.bytes xs)) c.args.selections.now l.selection-index c.selection-item.result _ (omega arith) c.selection-item.is refl in
    one_more g.V.Visitor.visited _ _ _ _ _ _ e l.invariant _ c.in_ok-walk_selection.ensures

pub walk_selections-returns-in_err-walk_selection : goal.walk_selections-returns-in_err-walk_selection
walk_selections-returns-in_err-walk_selection g t c =
    let l = c.selections in
    let e = first_left (λ xs. selections_branches (selections_view g.N.Names.bytes xs)) c.args.selections.now l.selection-index c.selection-item.result _ (omega arith) c.selection-item.is refl in
    rw (returned _ _ c.from_residual.ensures.1) (one_halted g.V.Visitor.visited _ _ _ _ _ _ e l.invariant _ _ c.in_err-walk_selection.ensures)

pub walk_selections-returns : goal.walk_selections-returns
walk_selections-returns g t c =
    let l = c.selections in
    none_left g.V.Visitor.visited _ _ _ _ (at_drop_all (λ xs. selections_branches (selections_view g.N.Names.bytes xs)) c.args.selections.now l.selection-index (omega arith)) l.invariant

-- ---- selections

pub walk_as-returns-in_err-enter : goal.walk_as-returns-in_err-enter
walk_as-returns-in_err-enter g t c =
    rw (returned _ _ c.from_residual.ensures.1) (not_entered g.V.Visitor.visited _ _ _ _ _ c.in_err-enter.ensures)

pub walk_as-returns-then-not-branch : goal.walk_as-returns-then-not-branch
walk_as-returns-then-not-branch g t c =
    skipped g.V.Visitor.visited _ _ _ _ (rw c.if-not-branch.true at c.in_ok-enter.ensures)

pub walk_as-returns-in_err-walk_in_selection : goal.walk_as-returns-in_err-walk_in_selection
walk_as-returns-in_err-walk_in_selection g t c =
    rw (returned _ _ c.from_residual-in_err-walk_in_selection.ensures.1)
    (halted g.V.Visitor.visited _ _ _ _ _ _ (rw c.if-not-branch.false at c.in_ok-enter.ensures) c.in_err-walk_in_selection.ensures)

pub walk_as-returns : goal.walk_as-returns
walk_as-returns g t c =
    left_after g.V.Visitor.visited _ _ _ _ _ _ _ (rw c.if-not-branch.false at c.in_ok-enter.ensures) c.in_ok-walk_in_selection.ensures c.leave.ensures

pub walk_in_field-returns-in_err-walk_arguments : goal.walk_in_field-returns-in_err-walk_arguments
walk_in_field-returns-in_err-walk_arguments g t c =
    rw (returned _ _ c.from_residual.ensures.1, field_parts g.N.Names.bytes c.args.field.now)
    (and_halted g.V.Visitor.visited _ _ _ _ _ (rw c.deref.ensures.value at c.in_err-walk_arguments.ensures))

pub walk_in_field-returns-in_err-walk_directives : goal.walk_in_field-returns-in_err-walk_directives
walk_in_field-returns-in_err-walk_directives g t c =
    rw (returned _ _ c.from_residual-in_err-walk_directives.ensures.1, field_parts g.N.Names.bytes c.args.field.now)
    (and_then g.V.Visitor.visited _ _ _ _ _ _ (rw c.deref.ensures.value at c.in_ok-walk_arguments.ensures)
    (and_halted g.V.Visitor.visited _ _ _ _ _ (rw c.deref-2.ensures.value at c.in_err-walk_directives.ensures)))

pub walk_in_field-returns : goal.walk_in_field-returns
walk_in_field-returns g t c =
    rw (field_parts g.N.Names.bytes c.args.field.now)
    (and_then g.V.Visitor.visited _ _ _ _ _ _ (rw c.deref.ensures.value at c.in_ok-walk_arguments.ensures)
    (and_then g.V.Visitor.visited _ _ _ _ _ _ (rw c.deref-2.ensures.value at c.in_ok-walk_directives.ensures) c.walk_selected.ensures))

pub walk_selected-returns-then-is_empty : goal.walk_selected-returns-then-is_empty
walk_selected-returns-then-is_empty g t c =
    let s = c.args.set.now in
    selected_none g.N.Names.bytes g.V.Visitor.visited s _ (no_items g.N.Names.bytes s (sym c.is_empty.ensures ∙ c.if-is_empty.true))

pub walk_selected-returns : goal.walk_selected-returns
walk_selected-returns g t c =
    let s = c.args.set.now in
    selected_some g.N.Names.bytes g.V.Visitor.visited s _ _ _ (some_items g.N.Names.bytes s (sym c.is_empty.ensures ∙ c.if-is_empty.false)) c.walk_selection_set.ensures

pub walk_in_inline_fragment-returns-in_err-walk_optional : goal.walk_in_inline_fragment-returns-in_err-walk_optional
walk_in_inline_fragment-returns-in_err-walk_optional g t c =
    rw (returned _ _ c.from_residual.ensures.1, inline_fragment_parts g.N.Names.bytes c.args.fragment.now) (and_halted g.V.Visitor.visited _ _ _ _ _ (optional_as g.V.Visitor.visited condition_branch (type_condition_view g.N.Names.bytes) _ _ _ c.args.fragment.now.type_condition c.in_err-walk_optional.ensures))

pub walk_in_inline_fragment-returns-in_err-walk_directives : goal.walk_in_inline_fragment-returns-in_err-walk_directives
walk_in_inline_fragment-returns-in_err-walk_directives g t c =
    rw (returned _ _ c.from_residual-in_err-walk_directives.ensures.1, inline_fragment_parts g.N.Names.bytes c.args.fragment.now)
    (and_then g.V.Visitor.visited _ _ _ _ _ _ (optional_as g.V.Visitor.visited condition_branch (type_condition_view g.N.Names.bytes) _ _ _ c.args.fragment.now.type_condition c.in_ok-walk_optional.ensures)
    (and_halted g.V.Visitor.visited _ _ _ _ _ (rw c.deref.ensures.value at c.in_err-walk_directives.ensures)))

pub walk_in_inline_fragment-returns : goal.walk_in_inline_fragment-returns
walk_in_inline_fragment-returns g t c =
    let set = selection_set_branch (selection_set_view g.N.Names.bytes c.args.fragment.now.selection_set) in
    rw (inline_fragment_parts g.N.Names.bytes c.args.fragment.now)
    (and_then g.V.Visitor.visited _ _ _ _ _ _ (optional_as g.V.Visitor.visited condition_branch (type_condition_view g.N.Names.bytes) _ _ _ c.args.fragment.now.type_condition c.in_ok-walk_optional.ensures)
    (and_then g.V.Visitor.visited _ _ _ _ _ _ (rw c.deref.ensures.value at c.in_ok-walk_directives.ensures) (only_one g.V.Visitor.visited set _ _ _ c.walk_selection_set.ensures)))
