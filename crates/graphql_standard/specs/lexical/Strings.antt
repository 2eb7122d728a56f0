-- Strings in quotes (GraphQL, September 2025, section 2.10.4, String Value).
use Rattle.std.specs.Prelude.{◌≡◌, ◌≢◌, ℕ, ◌+◌, ◌*◌, ◌-◌, true, Bool, List, [], ◌∷◌, ◌++◌, length}
use Rattle.std.specs.List.{list_all}
use Rattle.std.specs.Char.{encode_utf8, IsScalar, is_ascii_hexdigit}
use Rattle.std.specs.Str.Parse.{digits_value}
use Rattle.graphql_core.specs.lexical.Lexical.{is_in}
use Rattle.graphql_core.specs.strings.Strings.{Denotes}

-- hexadecimal digits with this value
pub record IsHexadecimal (digits : List ℕ) (value : ℕ) : Type 0 where
  pub hexadecimal : list_all is_ascii_hexdigit digits ≡ true
  pub value_is : digits_value 16 digits ≡ value

pub record IsFourDigits (digits : List ℕ) (value : ℕ) : Type 0 where
  pub four : length digits ≡ 4
  pub is : IsHexadecimal digits value

-- a leading surrogate is from U+D800 to U+DBFF, and a trailing one from U+DC00 to U+DFFF
abbrev pub is_leading : ℕ → Bool
is_leading code = is_in 55296 56319 code

abbrev pub is_trailing : ℕ → Bool
is_trailing code = is_in 56320 57343 code

-- the character of a leading and a trailing surrogate
abbrev pub paired : ℕ → ℕ → ℕ
paired leading trailing = (leading - 55296) * 1024 + (trailing - 56320) + 65536

-- `IsEscape escape c`: after a backslash, the bytes denote the character `c`.
-- October 2021 has escapes of one letter, and of `u` and four digits that name a character.
-- September 2025 also has `u` and digits in braces, and two escapes that are a leading and a trailing surrogate.
pub data IsEscape : List ℕ → ℕ → Type 0 where
  plain_escape : {escape : List ℕ} {c : ℕ} → Denotes (92 ∷ escape) (encode_utf8 c) → IsEscape escape c
  braced_escape : (digits : List ℕ) {c : ℕ} → digits ≢ [] → IsHexadecimal digits c → IsScalar c
      → IsEscape (117 ∷ 123 ∷ (digits ++ 125 ∷ [])) c
  paired_escape : (leading trailing : List ℕ) {l t : ℕ} → IsFourDigits leading l → is_leading l ≡ true
      → IsFourDigits trailing t → is_trailing t ≡ true
      → IsEscape (117 ∷ (leading ++ 92 ∷ 117 ∷ trailing)) (paired l t)

-- StringCharacter: bytes, and the bytes that they denote.
-- A byte denotes itself, except a quote, a backslash, LF and CR.
pub data IsStringCharacter : List ℕ → List ℕ → Type 0 where
  source_character : {b : ℕ} → b ≢ 34 → b ≢ 92 → b ≢ 10 → b ≢ 13 → IsStringCharacter (b ∷ []) (b ∷ [])
  escaped_character : {escape : List ℕ} {c : ℕ} → IsEscape escape c → IsStringCharacter (92 ∷ escape) (encode_utf8 c)

-- the bytes between the quotes of a string, and the value of the string
pub data HasStringValue : List ℕ → List ℕ → Type 0 where
  no_characters : HasStringValue [] []
  character_then : {character bytes body value : List ℕ} → IsStringCharacter character bytes → HasStringValue body value
      → HasStringValue (character ++ body) (bytes ++ value)

abbrev pub IsStringBody : List ℕ → Type 0
IsStringBody body = (value : List ℕ) × HasStringValue body value

-- a string body in quotes
abbrev pub IsString : List ℕ → Type 0
IsString text = (body : List ℕ) × (text ≡ 34 ∷ (body ++ 34 ∷ [])) × IsStringBody body
