-- A left-to-right test for floats. `IsFloat` specifies floats.
use Rattle.std.specs.Prelude.{ℕ, Bool, true, false, not, ◌&&◌, ◌||◌, ◌==◌, if◌then◌else◌, List, [], ◌∷◌, take, drop}
use Rattle.std.specs.List.{prefix_len}
use Rattle.std.specs.Char.{is_ascii_digit}
use Rattle.graphql_core.specs.lexical.{is_natural, is_exponent}

-- a number begins with a digit or a sign
abbrev pub starts_number : ℕ → Bool
starts_number b = b == 45 || is_ascii_digit b

abbrev pub digits_len : List ℕ → ℕ
digits_len bytes = prefix_len is_ascii_digit bytes

-- what follows a fraction
abbrev pub is_exponent_or_none : List ℕ → Bool
is_exponent_or_none [] = true
is_exponent_or_none (b ∷ bs) = is_exponent (b ∷ bs)

-- what follows the dot of a fraction
unfoldable pub is_after_dot : List ℕ → Bool
is_after_dot bytes = not (digits_len bytes == 0) && is_exponent_or_none (drop (digits_len bytes) bytes)

-- what follows the integer part of a float
unfoldable pub is_after_integer : List ℕ → Bool
is_after_integer [] = false
is_after_integer (b ∷ bs) = if b == 46 then is_after_dot bs else is_exponent (b ∷ bs)

-- a float without a sign
unfoldable pub is_unsigned : List ℕ → Bool
is_unsigned bytes = is_natural (take (digits_len bytes) bytes) && is_after_integer (drop (digits_len bytes) bytes)

unfoldable pub is_float : List ℕ → Bool
is_float [] = false
is_float (b ∷ bs) = if b == 45 then is_unsigned bs else is_unsigned (b ∷ bs)
