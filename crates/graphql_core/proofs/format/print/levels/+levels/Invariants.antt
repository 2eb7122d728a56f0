use Rattle.std.proofs.Common.{◌≡◌, ◌-◌, ◌^◌, min, max, drop}
use Rattle.graphql_core.specs.{items_view, members_view, items_levels, members_levels}
use Rattle.graphql_core.proofs.format.print.levels.+levels.Given as goal

abbrev pub invariant-levels_in_list-items : goal.invariant-levels_in_list-items
invariant-levels_in_list-items g l =
    let left = items_levels l.style (items_view g.N.Names.bytes (drop l.item-index l.items)) in
    record {
      levels : max l.most (min left (2 ^ 64 - 1)) ≡ min (items_levels l.style (items_view g.N.Names.bytes l.items)) (2 ^ 64 - 1);
    }

abbrev pub invariant-levels_in_object-members : goal.invariant-levels_in_object-members
invariant-levels_in_object-members g l =
    let left = members_levels l.style (members_view g.N.Names.bytes l._name-iterator) in
    record {
      levels : max l.most (min left (2 ^ 64 - 1)) ≡ min (members_levels l.style (members_view g.N.Names.bytes l.members.entries)) (2 ^ 64 - 1);
    }
