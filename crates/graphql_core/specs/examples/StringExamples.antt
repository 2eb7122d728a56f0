-- The values of some strings, written out.
use Rattle.std.specs.Prelude.{◌≡◌, ℕ, List, [], ◌∷◌, ◌++◌, codes}
use Rattle.std.specs.List.{join_by}
use Rattle.graphql_core.specs.strings.Strings.{HasValue, HasNoStringValue}
use Rattle.graphql_core.specs.strings.BlockStrings.{block_value}

-- a backslash, this character, and then `text`
abbrev escaped : ℕ → List ℕ → List ℕ
escaped c text = 92 ∷ c ∷ text

-- a slash and U+0008
abbrev pub Letters : Type 0
Letters = HasValue (escaped 47 (escaped 98 [])) (47 ∷ 8 ∷ [])

-- U+00E9, with hexadecimal digits in either case
abbrev pub Digits : Type 0
Digits =
    HasValue (escaped 117 (codes "00e9")) (195 ∷ 169 ∷ [])
    × HasValue (escaped 117 (codes "00E9")) (195 ∷ 169 ∷ [])

-- too few digits, an unknown escape, and digits that name no character
abbrev pub BadEscapes : Type 0
BadEscapes =
    HasNoStringValue (escaped 117 (codes "12"))
    × HasNoStringValue (escaped 120 [])
    × HasNoStringValue (escaped 117 (codes "DFFF"))

-- ---- block strings

-- lines with LF between them
abbrev in_lines : List (List ℕ) → List ℕ
in_lines ls = join_by (λ l. l) (10 ∷ []) ls

abbrev BlockValue : List (List ℕ) → List (List ℕ) → Type 0
BlockValue content value = block_value (in_lines content) ≡ in_lines value

-- blank lines at both ends and the common indent are removed
abbrev pub Unindented : Type 0
Unindented =
    BlockValue
    (codes "   " ∷ [] ∷ codes "  Hello," ∷ codes "    World!" ∷ [] ∷ codes "  Yours," ∷ codes "    GraphQL." ∷ [] ∷ []
    ∷ [] ∷ []) (codes "Hello," ∷ codes "  World!" ∷ [] ∷ codes "Yours," ∷ codes "  GraphQL." ∷ [])

-- the first line keeps its indent and its spaces
abbrev pub FirstLine : Type 0
FirstLine =
    BlockValue
    (codes "Hello   " ∷ [] ∷ codes "  Hello," ∷ codes "    World!" ∷ [] ∷ [])
    (codes "Hello   " ∷ [] ∷ codes "Hello," ∷ codes "  World!" ∷ [])

abbrev pub Blank : Type 0
Blank = BlockValue (codes "   " ∷ (9 ∷ []) ∷ [] ∷ []) []

-- CR LF ends a line
abbrev pub ReturnFeed : Type 0
ReturnFeed =
    block_value (13 ∷ 10 ∷ codes "  x" ++ 13 ∷ 10 ∷ codes "  y" ++ 13 ∷ 10 ∷ []) ≡ in_lines (codes "x" ∷ codes "y" ∷ [])

-- CR alone does not end a line
abbrev pub ReturnInLine : Type 0
ReturnInLine = block_value (97 ∷ 13 ∷ 98 ∷ []) ≡ 97 ∷ 13 ∷ 98 ∷ []

-- U+3000 does not count as indent
abbrev pub IdeographicSpace : Type 0
IdeographicSpace =
    BlockValue ([] ∷ codes " x" ∷ (227 ∷ 128 ∷ 128 ∷ codes "y") ∷ []) (codes " x" ∷ (227 ∷ 128 ∷ 128 ∷ codes "y") ∷ [])

-- a blank line between others becomes empty if its indent is at most the common indent
abbrev pub BlankBetween : Type 0
BlankBetween = BlockValue ([] ∷ codes "  x" ∷ codes " " ∷ codes "  y" ∷ []) (codes "x" ∷ [] ∷ codes "y" ∷ [])

-- an escape of three quotes loses its backslash
abbrev pub EscapedQuotes : Type 0
EscapedQuotes = BlockValue ((97 ∷ 92 ∷ 34 ∷ 34 ∷ 34 ∷ 98 ∷ []) ∷ []) ((97 ∷ 34 ∷ 34 ∷ 34 ∷ 98 ∷ []) ∷ [])
