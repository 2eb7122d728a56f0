use Rattle.std.proofs.Common.{◌≡◌, ◌-◌, ◌^◌, min, max, drop, not, nat_eq}
use Rattle.graphql_query.specs.{selections_view, selections_depth, counted}
use Rattle.graphql_query.proofs.print.levels.+levels.Given as goal

abbrev pub invariant-levels_in_selections-items : goal.invariant-levels_in_selections-items
invariant-levels_in_selections-items g l =
    let depth = selections_depth (counted (not (nat_eq g.row.ALL 0)) l.style) in
    let left = depth (selections_view g.N.Names.bytes (drop l.item-index l.items)) in
    record { levels : max l.most (min left (2 ^ 64 - 1)) ≡ min (depth (selections_view g.N.Names.bytes l.items)) (2 ^ 64 - 1) }
