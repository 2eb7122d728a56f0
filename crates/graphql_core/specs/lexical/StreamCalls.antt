-- What the calls of a token stream return.
use Rattle.std.specs.Prelude.{◌≡◌, ℕ, ◌+◌, ◌-◌, ◌≤◌, ◌^◌, min, if◌then◌else◌, List, [], ◌∷◌, length, take, Option, Some}
use Rattle.std.specs.Prelude.{None, Result, Ok, Err}
use Rattle.graphql_core.specs.declared.tokenizer.token.Kind.{Kind}
use Rattle.graphql_core.specs.declared.tokenizer.token.Token.{Token}
use Rattle.graphql_core.specs.declared.tokenizer.token.Bad.{Bad}
use Rattle.graphql_core.specs.lexical.BadTexts.{bad_text}
use Rattle.graphql_core.specs.lexical.Items.{Where, start, Item, item_at, TokenContent, EndOfInput, LexicalError}
use Rattle.graphql_core.specs.lexical.Items.{is_token, HasItemsFrom, Stream}

abbrev pub next_place : List Item → Where
next_place [] = start
next_place (i ∷ is) = i.place

-- a count plus one, saturating at 2^64 - 1
abbrev pub one_more : ℕ → ℕ
one_more n = min (n + 1) (2 ^ 64 - 1)

-- The next item is returned. The stream moves past a token, but stays at the end and at a lexical error.
abbrev pub NextItem : List Item → Result (Option Token) Bad → List Item → Type 0
NextItem old (Ok (Some t)) new = (w : Where) × (old ≡ item_at (TokenContent t.kind t.value.now) w ∷ new)
NextItem old (Ok None) new = (w : Where) × (old ≡ item_at EndOfInput w ∷ []) × (new ≡ old)
NextItem old (Err bad) new = (w : Where) × (old ≡ item_at (LexicalError (bad_text bad)) w ∷ []) × (new ≡ old)

-- If the next item is a token, the input begins with the spelling of the token.
abbrev pub BeginsWithNext : List Item → List ℕ → Type 0
BeginsWithNext items text =
    (k : Kind) (value : List ℕ) (w : Where) (more : List Item) → items ≡ item_at (TokenContent k value) w ∷ more
    → take (length value) text ≡ value

-- The items are those of the input `text`, which begins at the place of the first item.
-- At most 50 brackets are open there.
abbrev pub AreItemsOfRest : List Item → List ℕ → Type 0
AreItemsOfRest items text =
    HasItemsFrom (next_place items) text items × ((next_place items).openers ≤ (next_place items).closers + 50)

-- the last item alone, without the tokens before it
abbrev pub last_alone : List Item → List Item
last_alone [] = []
last_alone (i ∷ is) = if is_token i.content then last_alone is else i ∷ is

-- the stream after each of its items, including the last, was requested once
abbrev pub asked_once : Stream → Stream
asked_once s = record { items = last_alone s.items; cuts = min (s.cuts + length s.items) (2 ^ 64 - 1) }
