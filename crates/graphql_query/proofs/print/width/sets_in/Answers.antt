use Rattle.std.proofs.Common.{◌≡◌, ◌≤◌, ◌+◌, length, refl, arith}
use Rattle.graphql_query.specs.{in_sets, reach_of, selection_set_view, selections_view, selection_set_depth, selections_depth}
use Rattle.graphql_query.proofs.{items_of, selection_set_parts, most_next}
use Rattle.graphql_query.proofs.print.width.sets_in.Goals as goal

pub listed : goal.listed
listed g c = omega (arith, c.sets.invariant.long, c.sets.invariant.within.1)

pub listed-in-sets : goal.listed-in-sets
listed-in-sets g c = omega (arith, c.sets.invariant.long, c.sets.invariant.within.1)

pub sets-preserved-then-len-end : goal.sets-preserved-then-len-end
sets-preserved-then-len-end g c =
    let bytes = g.N.Names.bytes in
    let l = c.sets in
    let here = c.index-sets-next.result in
    let is = c.index-sets-next.is in
    let few : l.end ≤ length l.sets = omega (arith, l.invariant.long, l.invariant.within.1) in
    let (same, first) = most_next (reach_of bytes) l.sets l.next l.end here c.index-sets-next-in-sets.result c.sets-test.true few is in
    let inside = rw (← is) at c.levels_in_selection_set-inside.ensures in
    let added = rw same at c.saturating_add.ensures in
    record {
      long = l.invariant.long;
      within = (omega arith, l.invariant.within.1);
      reach = omega (arith, l.invariant.reach, first, inside, added, c.max-most.ensures);
    }

pub sets-preserved : goal.sets-preserved
sets-preserved g c =
    let bytes = g.N.Names.bytes in
    let l = c.sets in
    let here = c.index-sets-next.result in
    let is = c.index-sets-next.is in
    let few : l.end ≤ length l.sets = omega (arith, l.invariant.long, l.invariant.within.1) in
    let (same, first) = most_next (reach_of bytes) l.sets l.next l.end here c.index-sets-next-in-sets.result c.sets-test.true few is in
    let pushed = rw (c.deref.ensures.value, ← is) at (c.push_nested-end.ensures.reach (l.next + 1) (omega (arith, c.sets-test.true))) in
    let depth : selection_set_depth in_sets (selection_set_view bytes here.0.now) ≡ selections_depth in_sets (selections_view bytes (items_of bytes here.0.now)) + 1 =
    rw (selection_set_parts bytes here.0.now) refl in
    let inside = rw same at c.saturating_add-inside.ensures in
    let (grows, adds) = c.push_nested-end.ensures.within in
    record {
      long = c.push_nested-end.ensures.long;
      within = (omega (arith, grows, c.sets-test.true), omega (arith, adds, c.deref.ensures.len, c.len.ensures, c.if-len-end.false, l.invariant.within.1));
      reach = omega (arith, l.invariant.reach, first, pushed, depth, inside, c.max-most-else-len-end.ensures);
    }
