-- What the fast paths of the tokenizer test for.
use Rattle.std.specs.Prelude.{◌≡◌, ℕ, ◌+◌, ◌-◌, ◌*◌, ◌^◌, ◌<◌, ◌≤◌, Bool, not, nat_le, nat_lt, ◌==◌, ◌&&◌, ◌||◌}
use Rattle.std.specs.Prelude.{if◌then◌else◌, List, ◌∷◌, length, map, slice_index, Option, Some, None, Result, Ok, Err}
use Rattle.std.specs.Int.{w64, trailing_zeros}
use Rattle.graphql_core.specs.steps.Front.{FrontElement, AtEnd, Skips, Takes, Stops, AreWholeCharacters, is_flat}
use Rattle.graphql_core.specs.lexical.{steps_over, Where, Item, Content, item_at, TokenContent, NextItem}
use Rattle.graphql_core.specs.steps.ComputedItems.{items}
use Rattle.graphql_core.specs.declared.position.Pos.{Pos}
use Rattle.graphql_core.specs.declared.tokenizer.piece.Skipped.{Skipped}
use Rattle.graphql_core.specs.declared.tokenizer.piece.Taken.{Taken}
use Rattle.graphql_core.specs.declared.tokenizer.token.Token.{Token}
use Rattle.graphql_core.specs.declared.tokenizer.token.Bad.{Bad}

abbrev pub is_space : ℕ → Bool
is_space b = b == 32

-- ASCII that continues a string without an escape: no LF, no quote and no backslash
abbrev pub is_plain_in_string : ℕ → Bool
is_plain_in_string b = is_flat b && not (b == 34 || b == 92)

-- neither a quote nor a backslash nor a line feed
abbrev pub is_in_string : ℕ → Bool
is_in_string b = not (b == 10) && not (b == 34 || b == 92)

-- neither a quote nor a backslash
abbrev pub is_plain_in_block : ℕ → Bool
is_plain_in_block b = not (b == 34 || b == 92)

abbrev pub is_no_line_feed : ℕ → Bool
is_no_line_feed b = not (b == 10)

abbrev pub is_no_backslash : ℕ → Bool
is_no_backslash b = not (b == 92)

-- a byte of a character in UTF-8 except its first: 0x80 to 0xBF
abbrev pub continues_character : ℕ → Bool
continues_character b = nat_le 128 b && nat_lt b 192

abbrev pub is_space_or_comma : ℕ → Bool
is_space_or_comma b = b == 32 || b == 44

-- U+FEFF
abbrev pub is_byte_order_mark : ℕ → List ℕ → Bool
is_byte_order_mark b bs = b == 239 && (slice_index bs 0 == 187 && slice_index bs 1 == 191)

-- the index of the lowest set bit, or `n` if no bit is set
abbrev pub first_set : ℕ → ℕ → ℕ
first_set mask n = if mask == 0 then n else trailing_zeros w64 mask

-- the ignored text at the front, if there is any
abbrev pub ignored_front : FrontElement → Option Skipped
ignored_front AtEnd = None
ignored_front Stops = None
ignored_front (Skips n m) = Some (record { len = n; by = m })
ignored_front (Takes n k t) = None

-- ignored text is one or more whole characters, and moves over at most 8 columns
abbrev pub FitsIgnored : List ℕ → Option Skipped → Type 0
FitsIgnored bytes None = Unit {0}
FitsIgnored bytes (Some s) = AreWholeCharacters bytes s.len × (steps_over s.by ≤ 8)

-- the token at the front, if there is one
abbrev pub taken : FrontElement → Option Taken
taken AtEnd = None
taken Stops = None
taken (Skips n m) = None
taken (Takes n k t) = Some (record { len = n; kind = k; nesting = t })

-- a token without its flag
abbrev pub without_flat : Option (Taken × Bool) → Option Taken
without_flat None = None
without_flat (Some (t, f)) = Some t

-- a token is one or more whole characters
abbrev pub FitsTaken : List ℕ → Option Taken → Type 0
FitsTaken bytes None = Unit {0}
FitsTaken bytes (Some t) = AreWholeCharacters bytes t.len

abbrev pub is_line_feed : ℕ → Bool
is_line_feed b = b == 10

-- a tab, a carriage return, a space or a comma
abbrev pub is_spacing : ℕ → Bool
is_spacing b = b == 9 || b == 13 || is_space_or_comma b

-- the columns that a byte of ignored text takes; a carriage return takes none
abbrev pub columns_of : ℕ → ℕ
columns_of b = if b == 9 then 8 else if is_space_or_comma b then 1 else 0

-- a byte that can begin ignored text; 239 is the first byte of a byte order mark
abbrev pub can_begin_ignored : ℕ → Bool
can_begin_ignored b = is_space_or_comma b || is_line_feed b || b == 9 || b == 13 || b == 35 || b == 239

-- a space, a comma or a line feed
abbrev pub is_gap : ℕ → Bool
is_gap b = is_space_or_comma b || is_line_feed b

-- the input at a position is so short that no line, column or offset overflows
abbrev pub CannotOverflow : List ℕ → Pos → Type 0
CannotOverflow text at = (length text < 2 ^ 62) × (at.line + length text < 2 ^ 62) × (at.column + 8 * length text < 2 ^ 63)

-- the place `n` bytes further, at the position `p`, with no bracket in between
abbrev pub further : Pos → ℕ → Where → Where
further p n w = record { position = p; offset = w.offset + n; openers = w.openers; closers = w.closers }

-- Between `text` at `at` and `rest` at `place` there is only ignored text.
-- Each byte of the ignored text moves the position by at most one line or eight columns.
abbrev pub SkipsTo : List ℕ → Pos → List ℕ → Pos → Type 0
SkipsTo text at rest place =
    ((w : Where) → w.position ≡ at → items (further place (length text - length rest) w) rest ≡ items w text)
    × (length rest ≤ length text) × (place.line + length rest ≤ at.line + length text)
    × (place.column + 8 * length rest ≤ at.column + 8 * length text)

-- the contents of items, without their places
abbrev pub contents : List Item → List Content
contents is = map (λ i. i.content) is

-- `t` is the next token, and `new` has the contents of the items after the token
abbrev pub NextLexeme : List Item → Token → List Item → Type 0
NextLexeme old t new = (w : Where) × (more : List Item) × (old ≡ item_at (TokenContent t.kind t.value.now) w ∷ more)
    × (contents new ≡ contents more)

-- the next item is returned; past a token, `new` has the contents of the items after it, and else it is `old`
abbrev pub NextItemOrLexeme : List Item → Result (Option Token) Bad → List Item → Type 0
NextItemOrLexeme old (Ok (Some t)) new = NextLexeme old t new
NextItemOrLexeme old (Ok None) new = NextItem old (Ok None) new
NextItemOrLexeme old (Err bad) new = NextItem old (Err bad) new

-- both inputs have the same items, ignoring places, whatever brackets are open before them
abbrev pub HasContentsOf : List ℕ → List ℕ → Type 0
HasContentsOf rest text = (w : Where) → contents (items w rest) ≡ contents (items w text)
