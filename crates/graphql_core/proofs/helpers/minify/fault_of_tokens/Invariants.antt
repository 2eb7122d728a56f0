use Rattle.std.proofs.Common.{◌≡◌, length}
use Rattle.graphql_core.specs.{split}
use Rattle.graphql_core.proofs.helpers.minify.fault_of_tokens.Given as goal

-- the end of the tokens stays the same
abbrev pub invariant-tokens : goal.invariant-tokens
invariant-tokens l = record {
  last : (split l.tokens).last ≡ (split l.fn.tokens).last;
}

abbrev pub decreases-tokens : goal.decreases-tokens
decreases-tokens l = length l.tokens
