use Rattle.std.proofs.Common.{◌≡◌, ◌++◌, List, length}
use Rattle.graphql_core.specs.{Item, HasItems, kind_number, split, IsEnd, spaced, spaced_after}
use Rattle.graphql_core.proofs.helpers.minify.spaced.Given as goal

-- after what is written come the tokens that are left
abbrev pub invariant-tokens : goal.invariant-tokens
invariant-tokens l = record {
  text : (items : List Item) → HasItems l.fn.source items
      → spaced (split items).tokens ≡ l.text ++ spaced_after (kind_number l.before) (split l.tokens).tokens;
  ends : (items : List Item) → HasItems l.fn.source items → IsEnd (split l.tokens).last → IsEnd (split items).last;
  ends_left : (items : List Item) → HasItems l.fn.source items → IsEnd (split items).last → IsEnd (split l.tokens).last;
}

abbrev pub decreases-tokens : goal.decreases-tokens
decreases-tokens l = length l.tokens
