-- Which leaves of a parse tree have a value, and the values of these leaves.
use Rattle.std.specs.Prelude.{ℕ, ℤ, ◌+◌, ◌-◌, ◌^◌, Bool, true, not, ◌&&◌, ◌||◌, ◌==◌, nat_lt, nat_le, if◌then◌else◌}
use Rattle.std.specs.Prelude.{is_some, List, [], ◌∷◌, ◌++◌, length, take, drop, Option, Some, None}
use Rattle.std.specs.Str.Parse.{signed_digits_value, starts_with_minus, without_leading_sign, digits_value}
use Rattle.std.specs.List.{list_any, list_all}
use Rattle.std.specs.Option.{unwrap_or}
use Rattle.std.specs.Char.{encode_utf8, is_ascii_digit, is_ascii_hexdigit}
use Rattle.graphql_core.specs.grammar.{Token, nowhere, Class, AnyOf}
use Rattle.graphql_core.specs.sources.{kind_number}
use Rattle.graphql_core.specs.strings.{block_value}
use Rattle.graphql_core.specs.declared.tokenizer.token.Kind.TheVariants.{IntValue, FloatValue, StringValue, BlockString}

-- ---- integers

-- the number that an optional sign and digits denote
abbrev pub int_of : List ℕ → ℤ
int_of run = signed_digits_value 10 run

-- the number is an `i64`: from -2^63 to 2^63 - 1
abbrev pub is_in_range : List ℕ → Bool
is_in_range run =
    if starts_with_minus run then nat_le (digits_value 10 (without_leading_sign run)) (2 ^ 63)
    else nat_lt (digits_value 10 (without_leading_sign run)) (2 ^ 63)

-- ---- floats

abbrev pub is_exponent_indicator : ℕ → Bool
is_exponent_indicator b = b == 101 || b == 69

-- the bytes after the `e` or `E` of an exponent
abbrev pub after_indicator : List ℕ → List ℕ
after_indicator [] = []
after_indicator (b ∷ bs) = if is_exponent_indicator b then bs else after_indicator bs

-- an exponent, if there is one, has a digit
abbrev pub has_whole_exponent : List ℕ → Bool
has_whole_exponent run = not (list_any is_exponent_indicator run) || list_any is_ascii_digit (after_indicator run)

-- ---- strings

-- both strings, concatenated, if both are `Some`
abbrev pub before : Option (List ℕ) → Option (List ℕ) → Option (List ℕ)
before (Some a) (Some b) = Some (a ++ b)
before _ _ = None

-- what a backslash and one character stand for
abbrev pub escape_of : ℕ → Option (List ℕ)
escape_of c =
    if c == 34 || c == 92 || c == 47 then Some (c ∷ [])
    else if c == 98 then Some (8 ∷ [])
    else if c == 102 then Some (12 ∷ [])
    else if c == 110 then Some (10 ∷ [])
    else if c == 114 then Some (13 ∷ [])
    else if c == 116 then Some (9 ∷ [])
    else None

-- U+D800 to U+DFFF are no characters
abbrev pub is_surrogate : ℕ → Bool
is_surrogate c = nat_le 55296 c && nat_le c 57343

-- the character that four hexadecimal digits name
abbrev pub named_by : List ℕ → Option (List ℕ)
named_by digits = if list_all is_ascii_hexdigit digits && not (is_surrogate (digits_value 16 digits))
    then Some (encode_utf8 (digits_value 16 digits)) else None

-- the body of a string with each escape replaced by what it stands for; `None` if an escape is invalid
unfoldable mutual
  pub unquoted : List ℕ → Option (List ℕ)
  unquoted [] = Some []
  unquoted (b ∷ bs) = if b == 92 then escaped bs else before (Some (b ∷ [])) (unquoted bs)

  pub escaped : List ℕ → Option (List ℕ)
  escaped [] = None
  escaped (c ∷ cs) = if c == 117 then unquoted_unicode cs else before (escape_of c) (unquoted cs)

  pub unquoted_unicode : List ℕ → Option (List ℕ)
  unquoted_unicode (a ∷ b ∷ c ∷ d ∷ rest) = before (named_by (a ∷ b ∷ c ∷ d ∷ [])) (unquoted rest)
  unquoted_unicode _ = None

-- without `n` bytes at either end
abbrev pub without_ends : ℕ → List ℕ → List ℕ
without_ends n text = take (length text - (n + n)) (drop n text)

abbrev pub string_of : List ℕ → List ℕ
string_of spelling = unwrap_or (unquoted (without_ends 1 spelling)) []

abbrev pub block_string_of : List ℕ → List ℕ
block_string_of spelling = block_value (without_ends 3 spelling)

-- ---- leaves

-- a token of this kind has a value
abbrev pub has_value : ℕ → List ℕ → Bool
has_value k spelling =
    if k == kind_number IntValue then is_in_range spelling
    else if k == kind_number FloatValue then has_whole_exponent spelling
    else if k == kind_number StringValue then is_some (unquoted (without_ends 1 spelling))
    else true

-- a token has a value as a leaf of this class
abbrev pub is_good : Class → Token → Bool
is_good (AnyOf k) t = has_value k t.spelling
is_good c t = true

-- the value of a token that is a block string, and the spelling of any other token
abbrev pub token_value : Token → List ℕ
token_value t = if t.kind == kind_number BlockString then block_string_of t.spelling else t.spelling

-- a token with this value in place of its spelling, and with no position
abbrev pub valued : Token → Token
valued t = record { kind = t.kind; spelling = token_value t; place = nowhere }
