-- The number at the front of an input, from left to right. `IsNumber` specifies numbers.
use Rattle.std.specs.Prelude.{ℕ, ◌+◌, ◌||◌, ◌==◌, if◌then◌else◌, List, drop, slice_index, Option, Some, None}
use Rattle.std.specs.Prelude.{◌≢◌, Bool, ◌++◌, ◌-◌, length}
use Rattle.std.specs.Char.{is_ascii_digit}
use Rattle.graphql_core.specs.declared.tokenizer.token.Kind.{Kind}
use Rattle.graphql_core.specs.declared.tokenizer.token.Kind.TheVariants.{IntValue, FloatValue}
use Rattle.graphql_core.specs.steps.Numbers.{digits_len}
use Rattle.graphql_standard.specs.lexical.Numbers.{is_sign, is_indicator, continues_number, IsNumber, EndsNumber}

-- the length of `before` bytes and some digits, or 0 if there are no digits
abbrev pub with_digits : (before digits : ℕ) → ℕ
with_digits before digits = if digits == 0 then 0 else before + digits

-- the length of a natural number: `0` alone, or all digits
abbrev pub natural_len : List ℕ → ℕ
natural_len bytes = if slice_index bytes 0 == 48 then 1 else digits_len bytes

-- the length of the IntegerPart, or 0
unfoldable pub integer_len : List ℕ → ℕ
integer_len bytes = if slice_index bytes 0 == 45 then with_digits 1 (natural_len (drop 1 bytes)) else natural_len bytes

-- the length of the FractionalPart, or 0
unfoldable pub fraction_len : List ℕ → ℕ
fraction_len bytes = if slice_index bytes 0 == 46 then with_digits 1 (digits_len (drop 1 bytes)) else 0

-- the length of `e` or `E` and a sign, if there is one
abbrev pub exponent_head : List ℕ → ℕ
exponent_head bytes = if is_sign (slice_index bytes 1) then 2 else 1

-- the length of the ExponentPart, or 0
unfoldable pub exponent_len : List ℕ → ℕ
exponent_len bytes = if is_indicator (slice_index bytes 0)
    then with_digits (exponent_head bytes) (digits_len (drop (exponent_head bytes) bytes)) else 0

-- the length and the kind of a number with parts of these lengths, or `None` if the integer is missing or the bytes
-- after the parts continue the number
abbrev pub number_of : (integer fraction exponent : ℕ) → List ℕ → Option (ℕ × Kind)
number_of integer fraction exponent rest =
    if integer == 0 || continues_number (slice_index rest 0) then None
    else Some (integer + (fraction + exponent), if fraction + exponent == 0 then IntValue else FloatValue)

abbrev pub after_fraction : (integer fraction : ℕ) → List ℕ → Option (ℕ × Kind)
after_fraction integer fraction rest = number_of integer fraction (exponent_len rest) (drop (exponent_len rest) rest)

abbrev pub after_integer : (integer : ℕ) → List ℕ → Option (ℕ × Kind)
after_integer integer rest = after_fraction integer (fraction_len rest) (drop (fraction_len rest) rest)

unfoldable pub number_front : List ℕ → Option (ℕ × Kind)
number_front bytes = after_integer (integer_len bytes) (drop (integer_len bytes) bytes)

-- the last byte is a digit
abbrev pub ends_in_digit : List ℕ → Bool
ends_in_digit bytes = is_ascii_digit (slice_index bytes (length bytes - 1))

-- no number begins this input
abbrev pub BeginsNoNumber : List ℕ → Type 0
BeginsNoNumber text =
    (k : Kind) (number rest : List ℕ) → IsNumber k number → EndsNumber rest → text ≢ number ++ rest
