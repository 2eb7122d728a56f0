-- The items of an input: its tokens in order, and then the end of the input or the first lexical error.
use Rattle.std.specs.Prelude.{◌≡◌, ℕ, ◌+◌, Bool, true, false, ◌||◌, ◌==◌, if◌then◌else◌, List, [], ◌∷◌, ◌++◌, length}
use Rattle.std.specs.Prelude.{take, slice_index, ℤ, pos, ◌-ℤ◌}
use Rattle.std.specs.Str.{chars}
use Rattle.std.specs.List.{prefix_len, list_all, list_any}
use Rattle.std.specs.Char.{is_ascii_digit}
use Rattle.graphql_core.specs.declared.position.Pos.{Pos}
use Rattle.graphql_core.specs.declared.tokenizer.token.Kind.{Kind}
use Rattle.graphql_core.specs.declared.tokenizer.piece.Move.{Move}
use Rattle.graphql_core.specs.declared.tokenizer.piece.Move.TheVariants.{Stay, Over, Down}
use Rattle.graphql_core.specs.declared.tokenizer.piece.Nesting.{Nesting}
use Rattle.graphql_core.specs.declared.tokenizer.piece.Nesting.TheVariants.{Unchanged, Opens, Closes}
use Rattle.graphql_core.specs.lexical.BadTexts.{BadText, bad_character, bare_dot, bad_integer, bad_float}
use Rattle.graphql_core.specs.lexical.BadTexts.{unterminated_string, unterminated_block_string, too_deep}
use Rattle.graphql_core.specs.lexical.Lexical.{Meaning, Ignored, TokenOf, Piece, IsTokenizedInto, is_in_run, begins_quotes}

-- where an item is: its position, the bytes before it, and the opening and closing brackets before it
pub record Where : Type 0 where
  pub position : Pos
  pub offset : ℕ
  pub openers : ℕ
  pub closers : ℕ

pub data Content : Type 0 where
  TokenContent : Kind → List ℕ → Content
  EndOfInput : Content
  LexicalError : BadText → Content

pub record Item : Type 0 where
  pub content : Content
  pub place : Where

-- the first position is 1:1
abbrev pub start : Where
start = record { position = record { line = 1; column = 1 }; offset = 0; openers = 0; closers = 0 }

-- the position after ignored text
abbrev pub moved : Move → Pos → Pos
moved Stay p = p
moved (Over n) p = record { line = p.line; column = p.column + n }
moved Down p = record { line = p.line + 1; column = 1 }

-- the place after ignored text of `n` bytes
abbrev pub past_ignored : Move → ℕ → Where → Where
past_ignored m n w =
    record { position = moved m w.position; offset = w.offset + n; openers = w.openers; closers = w.closers }

-- the position after a character of a token: LF ends a line, any other takes a column
abbrev pub past_character : ℕ → Pos → Pos
past_character c p = if c == 10 then record { line = p.line + 1; column = 1 }
    else record { line = p.line; column = p.column + 1 }

abbrev pub past_characters : List ℕ → Pos → Pos
past_characters [] p = p
past_characters (c ∷ cs) p = past_characters cs (past_character c p)

-- the position after a token
abbrev pub past : List ℕ → Pos → Pos
past bytes p = past_characters (chars bytes) p

abbrev pub openers_after : Nesting → ℕ → ℕ
openers_after Unchanged n = n
openers_after Opens n = n + 1
openers_after Closes n = n

abbrev pub closers_after : Nesting → ℕ → ℕ
closers_after Unchanged n = n
closers_after Opens n = n
closers_after Closes n = n + 1

-- the place after a token
abbrev pub past_token : Nesting → List ℕ → Where → Where
past_token t bytes w = record {
  position = past bytes w.position;
  offset = w.offset + length bytes;
  openers = openers_after t w.openers;
  closers = closers_after t w.closers;
}

-- the depth of a place: the opening brackets before it minus the closing ones; it can be negative
abbrev pub depth_of : Where → ℤ
depth_of w = pos w.openers -ℤ pos w.closers

-- the depth is 50, so an opening bracket here is too deep
abbrev pub is_full : Where → Bool
is_full w = w.openers == w.closers + 50

abbrev pub is_too_deep : Nesting → Where → Bool
is_too_deep Unchanged w = false
is_too_deep Opens w = is_full w
is_too_deep Closes w = false

abbrev pub item_at : Content → Where → Item
item_at c w = record { content = c; place = w }

-- the run at the front of an input
abbrev pub run_at : List ℕ → List ℕ
run_at bytes = take (prefix_len is_in_run bytes) bytes

-- a dot, `e` or `E`: a run with one of these is a float, any other run is an integer
abbrev pub is_float_character : ℕ → Bool
is_float_character b = b == 46 || b == 101 || b == 69

abbrev pub bad_number : List ℕ → BadText
bad_number run = if list_any is_float_character run then bad_float run else bad_integer run

abbrev pub bad_string : List ℕ → BadText
bad_string bytes = if begins_quotes bytes then unterminated_block_string else unterminated_string

-- why no lexical element begins an input, by the first characters of the input
abbrev pub cause_at : ℕ → List ℕ → BadText
cause_at b bs =
    if b == 46 then bare_dot
    else if b == 45 || is_ascii_digit b then bad_number (run_at (b ∷ bs))
    else if b == 34 then bad_string (b ∷ bs)
    else bad_character (slice_index (chars (b ∷ bs)) 0)

-- the last item: the end of the input or a lexical error
abbrev pub last_item : Where → List ℕ → Item
last_item w [] = item_at EndOfInput w
last_item w (b ∷ bs) = item_at (LexicalError (cause_at b bs)) w

-- a token and the items after it, or a lexical error if the token is too deep
abbrev pub token_then : Bool → Item → Item → List Item → List Item
token_then true bad token more = bad ∷ []
token_then false bad token more = token ∷ more

abbrev pub piece_then : Meaning → (Where → List Item) → Where → List ℕ → List Item
piece_then (Ignored m) more w bytes = more (past_ignored m (length bytes) w)
piece_then (TokenOf k t) more w bytes =
    token_then (is_too_deep t w) (item_at (LexicalError too_deep) w) (item_at (TokenContent k bytes) w)
    (more (past_token t bytes w))

-- the tokens among the lexical elements, each with its place, and the last item
unfoldable pub items_of : Where → List Piece → List ℕ → List Item
items_of w [] stop = last_item w stop ∷ []
items_of w (q ∷ qs) stop = piece_then q.meaning (λ v. items_of v qs stop) w q.bytes

abbrev pub is_token : Content → Bool
is_token (TokenContent k bytes) = true
is_token EndOfInput = false
is_token (LexicalError bad) = false

-- tokens, and then exactly one item that is not a token
pub record EndsOnce (items : List Item) : Type 0 where
  pub tokens : List Item
  pub last : Item
  pub all : items ≡ tokens ++ last ∷ []
  pub before : list_all (λ i. is_token i.content) tokens ≡ true
  pub ends : is_token last.content ≡ false

-- these are the items of an input that begins at the place `w`
abbrev pub HasItemsFrom : Where → List ℕ → List Item → Type 0
HasItemsFrom w text items =
    (pieces : List Piece) × (stop : List ℕ) × IsTokenizedInto text pieces stop × (items ≡ items_of w pieces stop)

abbrev pub HasItems : List ℕ → List Item → Type 0
HasItems text items = HasItemsFrom start text items

-- the items of an input, as contracts of a stream name them

pub record Stream : Type 0 where
  -- the items from the next one on
  pub items : List Item
  -- how often the next item was requested
  pub cuts : ℕ
