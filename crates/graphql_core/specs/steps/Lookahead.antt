-- What a cursor keeps of the next item.
use Rattle.std.specs.Prelude.{ℕ}
use Rattle.graphql_core.specs.declared.position.Pos.{Pos}
use Rattle.graphql_core.specs.declared.tokenizer.token.Token.{Token}
use Rattle.graphql_core.specs.lexical.{bad_text, Stream}
use Rattle.graphql_core.specs.declared.helpers.cursor.Lookahead.{Lookahead}
use Rattle.graphql_core.specs.sources.{no_token, Items, LastIsEnd, LastIsError, then_items, token_of, only_last}
use Rattle.graphql_core.specs.steps.Sources.{spending, items_since}
use Rattle.graphql_core.specs.sources.{place_of}
use Rattle.graphql_core.specs.declared.helpers.cursor.Lookahead.TheVariants as lookahead

-- the items of a source where this token, the end of input or this lexical error is next, the stream is after it, and
-- its `cuts` was `n` at first
abbrev pub shown : ℕ → Pos → Token → Lookahead → Stream → Items
shown n p t lookahead.Token s = then_items (token_of p t.kind t.value.now) (items_since n s)
shown n p t lookahead.End s = spending (record { first_cuts = n; stream = s }) (only_last (LastIsEnd (place_of p)))
shown n p t (lookahead.Error b) s =
    spending (record { first_cuts = n; stream = s }) (only_last (LastIsError (place_of p) (no_token (bad_text b))))
