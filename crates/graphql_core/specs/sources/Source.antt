-- The items of an input as tokens of the grammar, and what comes after the last token.
use Rattle.std.specs.Prelude.{◌≡◌, ℕ, List, [], ◌∷◌}
use Rattle.graphql_core.specs.grammar.{Token, Place}
use Rattle.graphql_core.specs.declared.position.Pos.{Pos}
use Rattle.graphql_core.specs.declared.tokenizer.token.Kind.{Kind}
use Rattle.graphql_core.specs.lexical.{Item, Content, Stream}
use Rattle.graphql_core.specs.sources.Causes.{CauseText, no_token, kind_number}
use Rattle.graphql_core.specs.lexical.Items as items
use Rattle.graphql_core.specs.sources.Causes as causes

-- after the last token: the end of the input or a lexical error
pub data Last : Type 0 where
  LastIsEnd : Place → Last
  LastIsError : Place → CauseText → Last

-- the stream that items come from: its `cuts` at first, and the stream after all of the items are taken
pub record Spent : Type 0 where
  pub first_cuts : ℕ
  pub stream : Stream

pub record Items : Type 0 where
  pub tokens : List Token
  pub last : Last
  -- an empty stream if the items come from no stream
  pub spent : Spent

abbrev pub place_of : Pos → Place
place_of p = record { line = p.line; column = p.column }

abbrev pub token_of : Pos → Kind → List ℕ → Token
token_of p k bytes = record { kind = kind_number k; spelling = bytes; place = place_of p }

abbrev pub then_items : Token → Items → Items
then_items t i = record { tokens = t ∷ i.tokens; last = i.last; spent = i.spent }

-- these tokens and this last item, which come from no stream
abbrev pub tokens_then : List Token → Last → Items
tokens_then ts l =
    record { tokens = ts; last = l; spent = record { first_cuts = 0; stream = record { items = []; cuts = 0 } } }

abbrev pub only_last : Last → Items
only_last l = tokens_then [] l

abbrev pub split_by : Content → Pos → Items → Items
split_by (items.TokenContent k bytes) p more = then_items (token_of p k bytes) more
split_by items.EndOfInput p more = only_last (LastIsEnd (place_of p))
split_by (items.LexicalError b) p more = only_last (LastIsError (place_of p) (no_token b))

-- the tokens of a list of items, and its first item that is not a token
abbrev pub split : List Item → Items
split [] = only_last (LastIsEnd (record { line = 0; column = 0 }))
split (i ∷ is) = split_by i.content i.place.position (split is)

abbrev pub IsEnd : Last → Type 0
IsEnd (LastIsEnd p) = Unit {0}
IsEnd (LastIsError p b) = ⊥

abbrev pub IsAtEnd : Items → Type 0
IsAtEnd i = (i.tokens ≡ []) × IsEnd i.last

-- ---- errors

-- an error that has a place
pub record FaultText : Type 0 where
  pub cause : CauseText
  pub place : Place

abbrev pub fault_by : List Token → Last → FaultText
fault_by (t ∷ ts) last = record { cause = causes.unexpected_token t.kind t.spelling; place = t.place }
fault_by [] (LastIsEnd p) = record { cause = causes.unexpected_end; place = p }
fault_by [] (LastIsError p b) = record { cause = b; place = p }

-- the error if the next item is not allowed there
abbrev pub fault_at : Items → FaultText
fault_at i = fault_by i.tokens i.last

-- where the next item begins
abbrev pub place_next : Items → Place
place_next i = (fault_at i).place
