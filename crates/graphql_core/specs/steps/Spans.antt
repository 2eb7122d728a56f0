-- The tokens of an input, as spans of the input.
use Rattle.std.specs.Prelude.{◌≡◌, ℕ, ◌-◌, ◌*◌, ◌<◌, ◌≤◌, List, [], ◌∷◌, ◌++◌, All, length, take, drop, map, Option}
use Rattle.std.specs.Prelude.{Some, None}
use Rattle.std.specs.Str.{IsCharBoundary, IsUtf8}
use Rattle.graphql_core.specs.grammar.{Token}
use Rattle.graphql_core.specs.declared.position.Pos.{Pos}
use Rattle.graphql_core.specs.declared.tokenizer.token.Bad.{Bad}
use Rattle.graphql_core.specs.lexical.{Where, Item, item_at, HasItems, bad_text}
use Rattle.graphql_core.specs.lexical.Items as lexer
use Rattle.graphql_core.specs.declared.helpers.span.Span.{Span}
use Rattle.graphql_core.specs.sources.{kind_number, Items, Last, LastIsEnd, LastIsError, max_length, no_token}
use Rattle.graphql_core.specs.steps.Punctuators.{first_byte}
use Rattle.graphql_core.specs.steps.Sources.{IsLexeme}
use Rattle.graphql_core.specs.sources.{only_last, place_of, split}

-- the token that a span describes; `number` returns the value of a number of type `W`
abbrev pub span_token : {W : Type 0} → (W → ℕ) → List ℕ → Span W → Token
span_token number text s = record {
  kind = kind_number s.kind;
  spelling = take (number s.end - number s.start) (drop (number s.start) text);
  place = record { line = number s.line; column = number s.column };
}

-- the span is a token of the lexical grammar
pub record Marks {W : Type 0} (number : W → ℕ) (text : List ℕ) (s : Span W) : Type 0 where
  pub ordered : number s.start ≤ number s.end
  pub starts : IsCharBoundary text (number s.start)
  pub ends : IsCharBoundary (drop (number s.start) text) (number s.end - number s.start)
  pub lexeme : IsLexeme (span_token number text s)
  pub front : s.front ≡ first_byte (span_token number text s).spelling

-- the tokens of the spans, then the items `i`
abbrev pub then_left : {W : Type 0} → (W → ℕ) → List ℕ → List (Span W) → Items → Items
then_left number text spans i =
    record { tokens = map (span_token number text) spans ++ i.tokens; last = i.last; spent = i.spent }

-- after the last token: the end of the input or this lexical error, at this position
abbrev pub last_at : Pos → Option Bad → Last
last_at p None = LastIsEnd (place_of p)
last_at p (Some bad) = LastIsError (place_of p) (no_token (bad_text bad))

-- the tokens of the spans, then `last`
abbrev pub span_items : {W : Type 0} → (W → ℕ) → List ℕ → List (Span W) → Last → Items
span_items number text spans last = then_left number text spans (only_last last)

-- These items are left of an input. Each line and column in the input fits in a number up to `most`.
pub record IsLeft (most : ℕ) (text : List ℕ) (items : List Item) : Type 0 where
  pub past : List Item
  pub all : HasItems text (past ++ items)
  pub utf8 : IsUtf8 text
  pub small : length text ≤ max_length
  pub narrow : 8 * length text < most

-- only the last item is left: the end of the input or this lexical error
abbrev pub IsLast : List Item → Option Bad → Type 0
IsLast items None = (w : Where) × (items ≡ item_at lexer.EndOfInput w ∷ [])
IsLast items (Some bad) = (w : Where) × (items ≡ item_at (lexer.LexicalError (bad_text bad)) w ∷ [])

-- From the items `old` some tokens were appended to the spans, and the items `new` are left.
pub record AreAppended {W : Type 0} (number : W → ℕ) (most : ℕ) (text : List ℕ) (old : List Item)
    (spans more : List (Span W)) (new : List Item)
    : Type 0 where
  pub marks : All (Marks number text) spans → All (Marks number text) more
  pub left : IsLeft most text new
  pub items : then_left number text spans (split old) ≡ then_left number text more (split new)

-- the items `all` are the tokens of the spans, then the end or this lexical error at the position `end`
pub record HasSpans {W : Type 0} (number : W → ℕ) (text : List ℕ) (all : Items) (spans : List (Span W)) (end : Pos)
    (bad : Option Bad) : Type 0 where
  pub marks : All (Marks number text) spans
  pub items : all ≡ span_items number text spans (last_at end bad)
