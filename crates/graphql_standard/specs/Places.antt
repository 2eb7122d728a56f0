-- Places in a source: lines and columns.
use Rattle.std.specs.Prelude.{◌≡◌, ◌⊎◌, ◌+◌, ◌==◌, ◌&&◌, ◌||◌, not, nat_lt, ℕ, Bool, true, false, if◌then◌else◌, List, [], ◌∷◌, ◌++◌, length}
use Rattle.std.specs.List.{count_by, list_all}
use Rattle.graphql_core.specs.{is_in_line}
use Rattle.graphql_standard.specs.declared.place.Place.{Place}

-- ---- Line Terminators

-- A CR ends a line, and so does an LF, unless it comes after a CR.
abbrev pub ends_line : (previous b : ℕ) → Bool
ends_line previous b = (b == 13) || ((b == 10) && not (previous == 13))

abbrev pub line_ends_after : (previous : ℕ) → List ℕ → ℕ
line_ends_after previous [] = 0
line_ends_after previous (b ∷ bs) = (if ends_line previous b then 1 else 0) + line_ends_after b bs

-- how many lines end in the text
abbrev pub line_ends : List ℕ → ℕ
line_ends text = line_ends_after 0 text

-- the text is empty, or ends with an LF or a CR
abbrev pub EndsInLineEnd : List ℕ → Type 0
EndsInLineEnd text = (text ≡ []) ⊎ ((front : List ℕ) × (b : ℕ) × (text ≡ front ++ b ∷ []) × (is_in_line b ≡ false))

-- the part of the text after its last line end
abbrev pub IsLastLine : (text line : List ℕ) → Type 0
IsLastLine text line = (front : List ℕ) × (text ≡ front ++ line) × EndsInLineEnd front × (list_all is_in_line line ≡ true)

-- ---- characters

-- each character has one byte that is none of the continuation bytes of UTF-8, 128 to 191
abbrev pub begins_character : ℕ → Bool
begins_character b = nat_lt b 128 || not (nat_lt b 192)

abbrev pub character_count : List ℕ → ℕ
character_count text = count_by begins_character text

-- ---- places

-- The place after a text that begins a source. Lines and columns begin at 1.
pub record IsPlaceAfter (text : List ℕ) (p : Place) : Type 0 where
  pub offset_is : p.offset ≡ length text
  pub line_is : p.line ≡ line_ends text + 1
  pub column_is : (line : List ℕ) × IsLastLine text line × (p.column ≡ character_count line + 1)

-- the source ends with this rest
abbrev pub EndsWith : (source rest : List ℕ) → Type 0
EndsWith source rest = (front : List ℕ) × (source ≡ front ++ rest)

-- the place at which the rest of a source begins
abbrev pub IsPlaceBefore : (source rest : List ℕ) → Place → Type 0
IsPlaceBefore source rest p = (front : List ℕ) × (source ≡ front ++ rest) × IsPlaceAfter front p
