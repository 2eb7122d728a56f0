-- What comes after a backslash in a string.
use Rattle.std.specs.Prelude.{◌≡◌, ◌≢◌, ℕ, List, ◌∷◌, ◌++◌}
use Rattle.std.specs.Char.{encode_utf8}
use Rattle.graphql_core.specs.strings.Strings.{Denotes, NamesCharacter}

-- `text` is an escape of the character `c`, without its backslash, and then `after`
abbrev pub BeginsEscape : List ℕ → ℕ → List ℕ → Type 0
BeginsEscape text c after = (unit : List ℕ) × Denotes (92 ∷ unit) (encode_utf8 c) × (text ≡ unit ++ after)

abbrev pub BeginsNoEscape : List ℕ → Type 0
BeginsNoEscape text = (unit bytes after : List ℕ) → Denotes (92 ∷ unit) bytes → text ≢ unit ++ after

-- `text` is four digits that name the character `c`, and then `after`
abbrev pub BeginsName : List ℕ → ℕ → List ℕ → Type 0
BeginsName text c after = (digits : List ℕ) × NamesCharacter digits c × (text ≡ digits ++ after)

abbrev pub BeginsNoName : List ℕ → Type 0
BeginsNoName text = (digits after : List ℕ) (c : ℕ) → NamesCharacter digits c → text ≢ digits ++ after
