use Rattle.std.proofs.Common.{ℕ, List, Result, Ok, Err, IfOk, String, string_bytes}
use Rattle.std.specs.Global.{Global}
use Rattle.graphql_core.specs.{Item, HasItems, HasTokens, IsMinified, split}
use Rattle.graphql_core.proofs.{minified_tokens, minified_again}
use Rattle.graphql_core.proofs.helpers.minify.minified.Goals as goal

module _ {F : Type 0} (source : List ℕ) where
  ok_tokens : (r : Result (String Global) F) → IfOk r (λ text. IsMinified source (string_bytes text)) → (items : List Item) → HasItems source items
      → IfOk r (λ text. HasTokens (string_bytes text) (split items).tokens)
  ok_tokens (Ok text) is items has = minified_tokens source (string_bytes text) is items has
  ok_tokens (Err f) is items has = tt

  ok_again : (r : Result (String Global) F) → IfOk r (λ text. IsMinified source (string_bytes text))
      → IfOk r (λ text. IsMinified (string_bytes text) (string_bytes text))
  ok_again (Ok text) is = minified_again source (string_bytes text) is
  ok_again (Err f) is = tt

pub returns-clause-tokens : goal.returns-clause-tokens
returns-clause-tokens c = ok_tokens c.args.source.now c.spaced.result c.spaced.ensures.minified

pub returns-clause-again : goal.returns-clause-again
returns-clause-again c = ok_again c.args.source.now c.spaced.result c.spaced.ensures.minified
