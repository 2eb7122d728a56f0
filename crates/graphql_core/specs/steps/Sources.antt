-- The items that a source holds, and what its calls change.
use Rattle.std.specs.Prelude.{◌≡◌, ℕ, List, [], ◌∷◌, drop, Option, Some, None, Result, Ok, Err}
use Rattle.graphql_core.specs.grammar.Tokens.{Token}
use Rattle.graphql_core.specs.declared.position.Pos.{Pos}
use Rattle.graphql_core.specs.declared.tokenizer.token.Kind.{Kind}
use Rattle.graphql_core.specs.declared.tokenizer.token.Bad.{Bad}
use Rattle.graphql_core.specs.declared.tokenizer.token.Token.{Token as LexedToken}
use Rattle.graphql_core.specs.declared.tokenizer.piece.Nesting.{Nesting}
use Rattle.graphql_core.specs.declared.helpers.source.Lexeme.{Lexeme}
use Rattle.graphql_core.specs.lexical.{IsLexicalElement, TokenOf, Item, Stream, asked_once, bad_text}
use Rattle.graphql_core.specs.sources.{no_token, kind_number, Last, LastIsEnd, LastIsError, Spent, Items, place_of}
use Rattle.graphql_core.specs.sources.{token_of, then_items, only_last, split}

-- the same items, from this stream
abbrev pub spending : Spent → Items → Items
spending s i = record { tokens = i.tokens; last = i.last; spent = s }

-- the items that are left of a stream whose `cuts` was `n` at first, read with one item of lookahead
abbrev pub items_since : ℕ → Stream → Items
items_since n s = spending (record { first_cuts = n; stream = asked_once s }) (split s.items)

-- the items of a stream
abbrev pub items_of_stream : Stream → Items
items_of_stream s = items_since s.cuts s

-- the items of an input, read from a new stream
abbrev pub items_of_text : List Item → Items
items_of_text items = items_of_stream (record { items = items; cuts = 0 })

-- the parts that a reader never changes
abbrev pub kept : Items → Last × Spent
kept i = (i.last, i.spent)

-- The items after the next one. The end and a lexical error stay.
abbrev pub after : Items → Items
after i = record { tokens = drop 1 i.tokens; last = i.last; spent = i.spent }

-- a token of a source as a token of the grammar
abbrev pub lexeme_token : {T : Type 0} → (T → List ℕ) → Lexeme T → Token
lexeme_token bytes t = token_of t.position t.kind (bytes t.text)

-- what a reader sees of the next item: a token, or `None` if it is not a token
abbrev pub Peeks : {T : Type 0} → (T → List ℕ) → Option (Lexeme T) → Items → Type 0
Peeks bytes (Some t) i = i.tokens ≡ lexeme_token bytes t ∷ drop 1 i.tokens
Peeks bytes None i = i.tokens ≡ []

-- the token is one of the lexical grammar
abbrev pub IsLexeme : Token → Type 0
IsLexeme t =
    (k : Kind) × (s : Nesting) × (rest : List ℕ) × (t.kind ≡ kind_number k) × IsLexicalElement t.spelling (TokenOf k s) rest

-- the items of a source, after a call of its stream returned this result and left the stream `s`; its `cuts` was `n`
-- at first
abbrev pub held : ℕ → Pos → Result (Option LexedToken) Bad → Stream → Items
held n p (Ok (Some t)) s = then_items (token_of p t.kind t.value.now) (items_since n s)
held n p (Ok None) s = spending (record { first_cuts = n; stream = s }) (only_last (LastIsEnd (place_of p)))
held n p (Err b) s =
    spending (record { first_cuts = n; stream = s }) (only_last (LastIsError (place_of p) (no_token (bad_text b))))
