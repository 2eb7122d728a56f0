-- Float literals.
use Rattle.std.specs.Prelude.{◌≡◌, ℕ, true, Bool, ◌&&◌, List, ◌++◌}
use Rattle.std.specs.List.{list_any}
use Rattle.std.specs.Char.{is_ascii_digit}
use Rattle.graphql_core.specs.lexical.{is_integer, is_fraction, is_exponent}

-- an exponent with at least one digit
abbrev pub is_whole_exponent : List ℕ → Bool
is_whole_exponent e = is_exponent e && list_any is_ascii_digit e

-- a fraction, an exponent with a digit, or both
pub data EndsFloat : List ℕ → Type 0 where
  fraction : (fraction : List ℕ) → is_fraction fraction ≡ true → EndsFloat fraction
  exponent : (exponent : List ℕ) → is_whole_exponent exponent ≡ true → EndsFloat exponent
  both : (fraction exponent : List ℕ) → is_fraction fraction ≡ true → is_whole_exponent exponent ≡ true
      → EndsFloat (fraction ++ exponent)

-- a float run whose exponent, if any, has a digit
abbrev pub IsFloatLiteral : List ℕ → Type 0
IsFloatLiteral text =
    (integer : List ℕ) × (ending : List ℕ) × (text ≡ integer ++ ending) × (is_integer integer ≡ true) × EndsFloat ending
