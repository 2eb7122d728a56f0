-- The value of a string (GraphQL, October 2021, section 2.9.4, String Value).
use Rattle.std.specs.Prelude.{◌≡◌, ◌≢◌, ℕ, true, List, [], ◌∷◌, ◌++◌, length}
use Rattle.std.specs.List.{list_all}
use Rattle.std.specs.Char.{encode_utf8, IsScalar, is_ascii_hexdigit}
use Rattle.std.specs.Str.Parse.{digits_value}

-- four hexadecimal digits that name a character; U+D800 to U+DFFF name none
pub record NamesCharacter (digits : List ℕ) (c : ℕ) : Type 0 where
  pub four : length digits ≡ 4
  pub hexadecimal : list_all is_ascii_hexdigit digits ≡ true
  pub value : digits_value 16 digits ≡ c
  pub exists : IsScalar c

-- A unit of a string, and the bytes that the unit stands for. A byte other than the backslash stands for itself.
pub data Denotes : List ℕ → List ℕ → Type 0 where
  itself : (b : ℕ) → b ≢ 92 → Denotes (b ∷ []) (b ∷ [])
  escaped_quote : Denotes (92 ∷ 34 ∷ []) (34 ∷ [])
  escaped_backslash : Denotes (92 ∷ 92 ∷ []) (92 ∷ [])
  escaped_slash : Denotes (92 ∷ 47 ∷ []) (47 ∷ [])
  escaped_backspace : Denotes (92 ∷ 98 ∷ []) (8 ∷ [])
  escaped_form_feed : Denotes (92 ∷ 102 ∷ []) (12 ∷ [])
  escaped_line_feed : Denotes (92 ∷ 110 ∷ []) (10 ∷ [])
  escaped_carriage_return : Denotes (92 ∷ 114 ∷ []) (13 ∷ [])
  escaped_tab : Denotes (92 ∷ 116 ∷ []) (9 ∷ [])
  escaped_unicode : (digits : List ℕ) (c : ℕ) → NamesCharacter digits c → Denotes (92 ∷ 117 ∷ digits) (encode_utf8 c)

-- The body of a string is a sequence of units. Its value is what the units stand for, concatenated.
pub data HasValue : List ℕ → List ℕ → Type 0 where
  no_units : HasValue [] []
  unit_then : (unit bytes body value : List ℕ) → Denotes unit bytes → HasValue body value
      → HasValue (unit ++ body) (bytes ++ value)

-- the body has no value, because some escape is invalid
abbrev pub HasNoStringValue : List ℕ → Type 0
HasNoStringValue body = (value : List ℕ) → HasValue body value → ⊥

-- `text` is `body` in quotes
abbrev pub IsInQuotes : List ℕ → List ℕ → Type 0
IsInQuotes text body = text ≡ 34 ∷ (body ++ 34 ∷ [])
