use Rattle.std.proofs.Common.{◌≡◌, ◌<◌, ℕ, List, length, drop}
use Rattle.graphql_core.proofs.{Rise, HasItemAt}
use Rattle.graphql_core.specs.{Item, HasItems, next_place}
use Rattle.graphql_query.proofs.consume.text_from.Given as goal

-- the token at the position is still to come
abbrev pub invariant-items : goal.invariant-items
invariant-items l = record {
  rise : Rise l.source l.stream.items;
  holds : (items : List Item) (n : ℕ) → HasItems l.source items → n < length items → (next_place (drop n items)).position ≡ l.fn.position
      → HasItemAt l.stream.items l.fn.position (next_place (drop n items)).offset;
}

abbrev pub decreases-items : goal.decreases-items
decreases-items l = length l.stream.items
