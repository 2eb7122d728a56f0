use Rattle.std.proofs.Common.{◌≡◌, ◌+◌, ◌≤◌, drop}
use Rattle.graphql_standard.specs.Places.{line_ends_after}
use Rattle.graphql_standard.proofs.place.line_ends.Given as goal

abbrev pub invariant-loop-byte : goal.invariant-loop-byte
invariant-loop-byte l = record {
  count : l.count + line_ends_after l.previous (drop l.byte-index l.byte-items) ≡ line_ends_after 0 l.byte-items;
  within : l.count ≤ l.byte-index;
}
