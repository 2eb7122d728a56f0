use Rattle.std.proofs.Common.{◌≡◌, ◌+◌, ℕ, List, length, vec_capacity}
use Rattle.graphql_core.specs.{IsLeft, AreAppended}
use Rattle.graphql_core.proofs.helpers.spans.append.Given as goal

abbrev pub invariant-tokens : goal.invariant-tokens
invariant-tokens g l = record {
  appends : (text : List ℕ) → IsLeft g.W.Width.most text l.fn.tokens
      → AreAppended g.W.Width.number g.W.Width.most text l.fn.tokens l.fn.spans.items l.spans.items l.tokens;
  count : length l.spans.items + length l.tokens ≡ length l.fn.spans.items + length l.fn.tokens;
  capacity : vec_capacity l.spans ≡ vec_capacity l.fn.spans;
}

abbrev pub decreases-tokens : goal.decreases-tokens
decreases-tokens g l = length l.tokens
