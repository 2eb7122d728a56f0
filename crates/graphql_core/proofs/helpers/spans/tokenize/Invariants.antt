use Rattle.std.proofs.Common.{◌≡◌, ◌<◌, List, All, length, vec_len, vec_capacity}
use Rattle.graphql_core.specs.{Item, HasItems, IsLeft, Marks, split, then_left}
use Rattle.graphql_core.proofs.helpers.spans.tokenize.Given as goal

-- the items are the tokens of the spans, and then those that are left
abbrev pub invariant-batches : goal.invariant-batches
invariant-batches g l = record {
  marks : All (Marks g.W.Width.number l.fn.text) l.spans.items;
  left : IsLeft g.W.Width.most l.fn.text l.tokens;
  items : (all : List Item) → HasItems l.fn.text all → split all ≡ then_left g.W.Width.number l.fn.text l.spans.items (split l.tokens);
  some : vec_len l.spans < vec_capacity l.spans;
}

abbrev pub decreases-batches : goal.decreases-batches
decreases-batches g l = length l.tokens
