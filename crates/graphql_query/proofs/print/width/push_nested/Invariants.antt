use Rattle.std.proofs.Common.{◌≡◌, ◌+◌, ◌≤◌, ℕ, length, max, take, drop}
use Rattle.graphql_core.specs.{most}
use Rattle.graphql_query.specs.{in_sets, reach_of, selections_depth, selections_view}
use Rattle.graphql_query.proofs.print.width.push_nested.Given as goal

abbrev pub invariant-items : goal.invariant-items
invariant-items g l =
    let bytes = g.N.Names.bytes in
    record {
      long : length l.sets ≡ 32;
      within : (l.end ≤ l.next) × (l.next ≤ l.end + l.item-index);
      reach : (k : ℕ) → k ≤ l.end
          → max (max l.around (most (reach_of bytes) (drop k (take l.next l.sets))))
          (l.around + selections_depth in_sets (selections_view bytes (drop l.item-index l.items)))
          ≡ max (most (reach_of bytes) (drop k (take l.end l.initial.sets)))
          (l.around + selections_depth in_sets (selections_view bytes l.items));
    }
