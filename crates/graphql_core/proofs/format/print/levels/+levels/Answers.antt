use Rattle.std.proofs.Common.{rules, arith, ◌≡◌, ◌-◌, ◌^◌, min, refl}
use Rattle.graphql_core.specs.{items_view, members_view, items_levels, members_levels}
use Rattle.graphql_core.proofs.{all_counted, items_here}
use Rattle.graphql_core.proofs.format.print.levels.+levels.Goals as goal

-- ---- lists

pub levels_in_list-items-preserved : goal.levels_in_list-items-preserved
levels_in_list-items-preserved g t c =
    let l = c.items in
    let here = items_here _ _ g.N.Names.bytes c.args.items.now l.item-index c.item-item.result (omega arith) c.item-item.is in
    let before = rw here at l.invariant.levels in
    record {
      levels = omega (arith, before, c.levels_in_value.ensures, c.max-most.ensures);
    }

pub levels_in_list-returns : goal.levels_in_list-returns
levels_in_list-returns g t c =
    let l = c.items in
    c.levels_around.ensures _
    (all_counted (items_view g.N.Names.bytes) c.args.items.now c.args.items.now l.item-index (omega arith) refl
    (items_levels c.args.style.now) l.most (2 ^ 64 - 1) refl l.invariant.levels)

-- ---- objects

pub levels_in_object-members-preserved : goal.levels_in_object-members-preserved
levels_in_object-members-preserved g t c =
    let l = c.members in
    let before = rw c.in-Some.ensures.steps at l.invariant.levels in
    record {
      levels = omega (arith, before, c.levels_in_value.ensures, c.max-most.ensures);
    }

pub levels_in_object-returns : goal.levels_in_object-returns
levels_in_object-returns g t c =
    let bytes = g.N.Names.bytes in
    let style = c.args.style.now in
    let left : c.members.most ≡ min (members_levels style (members_view bytes c.args.members.now.entries)) (2 ^ 64 - 1) = search rules in
    c.levels_around.ensures (members_levels style (members_view bytes c.args.members.now.entries)) left
