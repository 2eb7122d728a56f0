-- The lexical element at the front of an input: how many bytes it takes, and how it moves the position.
use Rattle.std.specs.Prelude.{◌≡◌, ℕ, ◌+◌, ◌<◌, ◌≤◌, length, Bool, true, false, not, nat_lt, ◌&&◌, ◌||◌, ◌==◌}
use Rattle.std.specs.Prelude.{if◌then◌else◌, List, [], ◌∷◌, drop, slice_index, Option, Some, None}
use Rattle.std.specs.Char.{is_ascii_digit}
use Rattle.std.specs.List.{prefix_len, list_all}
use Rattle.std.specs.Str.{IsCharBoundary}
use Rattle.graphql_core.specs.lexical.{is_name_start, is_name_continue, is_in_line, is_punctuator_byte, nesting_of}
use Rattle.graphql_core.specs.lexical.{steps_over, is_integer, is_in_run, run_at, begins_quotes}
use Rattle.graphql_core.specs.steps.Numbers.{is_float}
use Rattle.graphql_core.specs.steps.Quoted.{string_end, block_end}
use Rattle.graphql_core.specs.declared.tokenizer.token.Kind.{Kind}
use Rattle.graphql_core.specs.declared.tokenizer.token.Kind.TheVariants.{Punctuator, Name, IntValue, FloatValue}
use Rattle.graphql_core.specs.declared.tokenizer.token.Kind.TheVariants.{StringValue, BlockString}
use Rattle.graphql_core.specs.declared.tokenizer.piece.Move.{Move}
use Rattle.graphql_core.specs.declared.tokenizer.piece.Move.TheVariants.{Stay, Over, Down}
use Rattle.graphql_core.specs.declared.tokenizer.piece.Nesting.{Nesting}
use Rattle.graphql_core.specs.declared.tokenizer.piece.Nesting.TheVariants.{Unchanged}

-- `AtEnd`: the input is empty. `Skips`: ignored text of this length. `Takes`: a token of this length.
-- `Stops`: no lexical element.
pub data FrontElement : Type 0 where
  AtEnd : FrontElement
  Skips : ℕ → Move → FrontElement
  Takes : ℕ → Kind → Nesting → FrontElement
  Stops : FrontElement

-- the line end after `n` bytes of a comment
abbrev pub line_end : ℕ → List ℕ → FrontElement
line_end n [] = Skips (n + 1) Stay
line_end n (b ∷ bs) = if b == 13 && slice_index bs 0 == 10 then Skips (n + 3) Down else Skips (n + 2) Down

-- a comment, after its `#`
unfoldable pub comment : List ℕ → FrontElement
comment bs = line_end (prefix_len is_in_line bs) (drop (prefix_len is_in_line bs) bs)

-- an input that begins with a dot
abbrev pub dots : List ℕ → FrontElement
dots bytes = if slice_index bytes 1 == 46 && slice_index bytes 2 == 46 then Takes 3 Punctuator Unchanged else Stops

-- a run of `n` bytes
abbrev pub number_of : ℕ → List ℕ → FrontElement
number_of n run = if is_integer run then Takes n IntValue Unchanged
    else if is_float run then Takes n FloatValue Unchanged else Stops

unfoldable pub number : List ℕ → FrontElement
number bytes = number_of (prefix_len is_in_run bytes) (run_at bytes)

-- a string of this kind, after this many opening quotes
abbrev pub closed : Kind → ℕ → Option ℕ → FrontElement
closed k quotes None = Stops
closed k quotes (Some n) = Takes (n + quotes) k Unchanged

unfoldable pub quoted_front : List ℕ → FrontElement
quoted_front bytes =
    if begins_quotes bytes then closed BlockString 3 (block_end 0 0 (drop 3 bytes))
    else closed StringValue 1 (string_end 0 false (drop 1 bytes))

-- a token other than a name, in an input that begins with `b`
unfoldable pub other_token : ℕ → List ℕ → FrontElement
other_token b bytes =
    if is_punctuator_byte b then Takes 1 Punctuator (nesting_of b)
    else if b == 34 then quoted_front bytes
    else if b == 46 then dots bytes
    else if b == 45 || is_ascii_digit b then number bytes
    else Stops

abbrev pub front_of : ℕ → List ℕ → FrontElement
front_of b bs =
    if b == 9 then Skips 1 (Over 8)
    else if b == 10 then Skips 1 Down
    else if b == 13 then Skips 1 Stay
    else if b == 32 || b == 44 then Skips 1 (Over 1)
    else if is_name_start b then Takes (prefix_len is_name_continue bs + 1) Name Unchanged
    else if b == 35 then comment bs
    else if b == 239 && (slice_index bs 0 == 187 && slice_index bs 1 == 191) then Skips 3 Stay
    else other_token b (b ∷ bs)

unfoldable pub front : List ℕ → FrontElement
front [] = AtEnd
front (b ∷ bs) = front_of b bs

-- the first `n` bytes are one or more whole characters
abbrev pub AreWholeCharacters : List ℕ → ℕ → Type 0
AreWholeCharacters bytes n = (0 < n) × (n ≤ length bytes) × IsCharBoundary bytes n

abbrev pub FitsIn : List ℕ → FrontElement → Type 0
FitsIn bytes AtEnd = length bytes ≡ 0
FitsIn bytes Stops = 0 < length bytes
FitsIn bytes (Skips n m) = AreWholeCharacters bytes n × (steps_over m ≤ 8)
FitsIn bytes (Takes n k t) = AreWholeCharacters bytes n

-- the front is an item, not ignored text
abbrev pub IsItem : FrontElement → Type 0
IsItem AtEnd = Unit {0}
IsItem Stops = Unit {0}
IsItem (Skips n m) = ⊥
IsItem (Takes n k t) = Unit {0}

-- ASCII other than LF
abbrev pub is_flat : ℕ → Bool
is_flat b = nat_lt b 128 && not (b == 10)

abbrev pub is_quoted : Kind → Bool
is_quoted StringValue = true
is_quoted BlockString = true
is_quoted Punctuator = false
is_quoted Name = false
is_quoted IntValue = false
is_quoted FloatValue = false

-- a token other than a string takes one column per byte
abbrev pub IsFlat : Kind → List ℕ → Type 0
IsFlat k bytes = is_quoted k ≡ false → list_all is_flat bytes ≡ true
