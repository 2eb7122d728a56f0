use Rattle.std.proofs.Common.{◌-◌, ◌^◌, ◌∙◌, arith, rules, refl, sym, not, nat_eq}
use Rattle.graphql_core.proofs.{all_counted}
use Rattle.graphql_query.specs.declared.tree.SelectionSet.{the_lemmas}
use Rattle.graphql_query.specs.{selections_view, selections_depth, counted}
use Rattle.graphql_query.proofs.{selection_set_parts, no_items, some_items, nothing_levels, some_levels, selection_here}
use Rattle.graphql_query.proofs.print.levels.+levels.Goals as goal

pub levels_in_selection_set-levels_in_selections-requires : goal.levels_in_selection_set-levels_in_selections-requires
levels_in_selection_set-levels_in_selections-requires g t c κs within = (rw c.deref.ensures.value (grind (arith, the_lemmas)), search rules)

pub levels_in_selection_set-returns : goal.levels_in_selection_set-returns
levels_in_selection_set-returns g t c =
    let inside = rw c.deref.ensures.value at c.levels_in_selections.ensures in
    rw (selection_set_parts g.N.Names.bytes c.args.set.now) (omega (arith, inside, c.saturating_add.ensures))

pub levels_in_selected-returns : goal.levels_in_selected-returns
levels_in_selected-returns g t c =
    let bytes = g.N.Names.bytes in
    let s = c.args.set.now in
    rw (some_levels bytes s _ (some_items bytes s (sym c.is_empty.ensures ∙ c.if-is_empty.false))) c.levels_in_selection_set.ensures

pub levels_in_selected-returns-then-is_empty : goal.levels_in_selected-returns-then-is_empty
levels_in_selected-returns-then-is_empty g t c =
    let bytes = g.N.Names.bytes in
    let s = c.args.set.now in
    let none = nothing_levels bytes s (counted (not (nat_eq g.row.ALL 0)) c.args.style.now) (no_items bytes s (sym c.is_empty.ensures ∙ c.if-is_empty.true)) in
    omega (arith, none)

pub levels_in_selections-levels_in_selection-requires : goal.levels_in_selections-levels_in_selection-requires
levels_in_selections-levels_in_selection-requires g t c κs within = (grind (arith, the_lemmas), search rules)

pub levels_in_selections-items-preserved : goal.levels_in_selections-items-preserved
levels_in_selections-items-preserved g t c =
    let bytes = g.N.Names.bytes in
    let l = c.items in
    let here = selection_here bytes c.args.items.now l.item-index c.item-item.result (omega arith) c.item-item.is in
    let left = rw here at l.invariant.levels in
    record { levels = omega (arith, left, c.levels_in_selection.ensures, c.max-most.ensures) }

pub levels_in_selections-returns : goal.levels_in_selections-returns
levels_in_selections-returns g t c =
    let l = c.items in
    all_counted (selections_view g.N.Names.bytes) c.args.items.now c.args.items.now l.item-index (omega arith) refl
    (selections_depth (counted (not (nat_eq g.row.ALL 0)) c.args.style.now)) l.most (2 ^ 64 - 1) refl l.invariant.levels
