-- Numbers (GraphQL, September 2025, sections 2.10.1, Int Value, and 2.10.2, Float Value).
-- IntegerPart and FractionalPart are those of October 2021: `is_integer` and `is_fraction`.
use Rattle.std.specs.Prelude.{◌≡◌, ℕ, true, false, Bool, ◌&&◌, ◌||◌, ◌==◌, if◌then◌else◌, List, [], ◌∷◌, ◌++◌}
use Rattle.std.specs.Prelude.{slice_index}
use Rattle.std.specs.List.{list_all}
use Rattle.std.specs.Char.{is_ascii_digit}
use Rattle.graphql_core.specs.declared.tokenizer.token.Kind.{Kind}
use Rattle.graphql_core.specs.declared.tokenizer.token.Kind.TheVariants.{IntValue, FloatValue}
use Rattle.graphql_core.specs.lexical.Lexical.{is_integer, is_fraction, is_name_continue}

-- at least one digit
abbrev pub is_digits : List ℕ → Bool
is_digits [] = false
is_digits (b ∷ bs) = list_all is_ascii_digit (b ∷ bs)

-- Sign
abbrev pub is_sign : ℕ → Bool
is_sign b = b == 43 || b == 45

-- ExponentIndicator: `e` or `E`
abbrev pub is_indicator : ℕ → Bool
is_indicator b = b == 101 || b == 69

-- ExponentPart: `e` or `E`, an optional sign, and at least one digit
abbrev pub is_exponent_part : List ℕ → Bool
is_exponent_part (b ∷ c ∷ cs) = is_indicator b && (if is_sign c then is_digits cs else is_digits (c ∷ cs))
is_exponent_part _ = false

-- FloatValue: an integer with a fraction, an exponent, or both
pub data IsFloatValue : List ℕ → Type 0 where
  with_fraction : (integer fraction : List ℕ) → is_integer integer ≡ true → is_fraction fraction ≡ true
      → IsFloatValue (integer ++ fraction)
  with_exponent : (integer exponent : List ℕ) → is_integer integer ≡ true → is_exponent_part exponent ≡ true
      → IsFloatValue (integer ++ exponent)
  with_both : (integer fraction exponent : List ℕ) → is_integer integer ≡ true → is_fraction fraction ≡ true
      → is_exponent_part exponent ≡ true → IsFloatValue (integer ++ (fraction ++ exponent))

-- a number of this kind
pub data IsNumber : Kind → List ℕ → Type 0 where
  int_value : {number : List ℕ} → is_integer number ≡ true → IsNumber IntValue number
  float_value : {number : List ℕ} → IsFloatValue number → IsNumber FloatValue number

-- A number is not followed by a digit, a dot, a letter or `_`.
abbrev pub continues_number : ℕ → Bool
continues_number b = is_name_continue b || b == 46

abbrev pub EndsNumber : List ℕ → Type 0
EndsNumber rest = continues_number (slice_index rest 0) ≡ false
