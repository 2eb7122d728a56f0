use Rattle.std.proofs.Common.{◌≡◌, ◌-◌, ◌^◌, ◌≤◌, length, min, max, take, drop}
use Rattle.graphql_core.specs.{most}
use Rattle.graphql_query.specs.{selection_set_view, in_sets, reach_of, selection_set_depth}
use Rattle.graphql_query.proofs.print.width.sets_in.Given as goal

abbrev pub invariant-sets : goal.invariant-sets
invariant-sets g l =
    let bytes = g.N.Names.bytes in
    record {
      long : length l.sets ≡ 32;
      within : (l.next ≤ l.end) × (l.end ≤ 32);
      reach : max l.most (min (most (reach_of bytes) (drop l.next (take l.end l.sets))) (2 ^ 64 - 1))
          ≡ min (selection_set_depth in_sets (selection_set_view bytes l.set)) (2 ^ 64 - 1);
    }

abbrev pub decreases-sets : goal.decreases-sets
decreases-sets g l = 32 - l.next
