-- Escapes at the front of a string.
use Rattle.std.specs.Prelude.{◌≡◌, ◌≢◌, ℕ, true, Bool, not, ◌&&◌, ◌==◌, List, ◌∷◌, ◌++◌}
use Rattle.graphql_standard.specs.lexical.Strings.{IsFourDigits, IsEscape, is_leading, is_trailing, paired}

-- a byte that denotes itself
abbrev pub is_source_byte : ℕ → Bool
is_source_byte b = not (b == 34) && (not (b == 92) && (not (b == 10) && not (b == 13)))

-- `text` is an escape of the character `c`, without its backslash, and then `after`
abbrev pub BeginsEscape : List ℕ → ℕ → List ℕ → Type 0
BeginsEscape text c after = (escape : List ℕ) × IsEscape escape c × (text ≡ escape ++ after)

abbrev pub BeginsNoEscape : List ℕ → Type 0
BeginsNoEscape text = (escape after : List ℕ) (c : ℕ) → IsEscape escape c → text ≢ escape ++ after

-- `text` is four digits with this value, and then `after`
abbrev pub BeginsDigits : List ℕ → ℕ → List ℕ → Type 0
BeginsDigits text value after = (digits : List ℕ) × IsFourDigits digits value × (text ≡ digits ++ after)

abbrev pub BeginsNoDigits : List ℕ → Type 0
BeginsNoDigits text = (digits after : List ℕ) (value : ℕ) → IsFourDigits digits value → text ≢ digits ++ after

-- after a leading surrogate, `text` is the escape of a trailing one, and then `after`; both denote the character `c`
abbrev pub BeginsPair : (leading : ℕ) → List ℕ → ℕ → List ℕ → Type 0
BeginsPair leading text c after =
    (trailing : List ℕ) × (t : ℕ) × (is_leading leading ≡ true) × IsFourDigits trailing t × (is_trailing t ≡ true)
    × (text ≡ 92 ∷ 117 ∷ (trailing ++ after)) × (c ≡ paired leading t)

abbrev pub BeginsNoPair : (leading : ℕ) → List ℕ → Type 0
BeginsNoPair leading text =
    (trailing after : List ℕ) (t : ℕ) → is_leading leading ≡ true → IsFourDigits trailing t → is_trailing t ≡ true
    → text ≢ 92 ∷ 117 ∷ (trailing ++ after)
