-- The value of a block string (GraphQL, October 2021, section 2.9.4, Block Strings).
use Rattle.std.specs.Prelude.{◌≡◌, ℕ, Bool, not, ◌-◌, ◌||◌, ◌==◌, if◌then◌else◌, length, map, min, take, drop, List, []}
use Rattle.std.specs.Prelude.{◌∷◌, ◌++◌}
use Rattle.std.specs.List.{list_all, filter, prefix_len, suffix_len, reduce, join_by}
use Rattle.std.specs.Option.{unwrap_or}
use Rattle.std.specs.Str.Lines.{lines}
use Rattle.graphql_core.specs.lexical.{begins_escape}

-- a space or a tab
abbrev pub is_white : ℕ → Bool
is_white b = b == 32 || b == 9

abbrev pub is_blank_line : List ℕ → Bool
is_blank_line line = list_all is_white line

-- the number of spaces and tabs at the front of a line
abbrev pub indent : List ℕ → ℕ
indent line = prefix_len is_white line

-- the least indent of the lines that are not blank, except the first line; 0 if there are none
unfoldable pub common_indent : List (List ℕ) → ℕ
common_indent ls = unwrap_or (reduce min (map indent (filter (λ l. not (is_blank_line l)) (drop 1 ls)))) 0

-- the lines, without the first `n` bytes of each line except the first line
abbrev pub unindented : ℕ → List (List ℕ) → List (List ℕ)
unindented n [] = []
unindented n (first ∷ others) = first ∷ map (drop n) others

-- `xs` without the lines at both ends where `ls` has blank lines
abbrev pub without_blank_ends : List (List ℕ) → List (List ℕ) → List (List ℕ)
without_blank_ends ls xs = drop (prefix_len is_blank_line ls) (take (length ls - suffix_len is_blank_line ls) xs)

-- an escape of three quotes loses its backslash
abbrev pub unescaped : List ℕ → List ℕ
unescaped [] = []
unescaped (b ∷ bs) = if begins_escape (b ∷ bs) then unescaped bs else b ∷ unescaped bs

-- the lines, unescaped, with LF between them
abbrev pub join_lines : List (List ℕ) → List ℕ
join_lines ls = join_by unescaped (10 ∷ []) ls

abbrev pub value_of_lines : List (List ℕ) → List ℕ
value_of_lines ls = join_lines (without_blank_ends ls (unindented (common_indent ls) ls))

-- the value of the content between the quotes
abbrev pub block_value : List ℕ → List ℕ
block_value content = value_of_lines (lines content)

-- `text` is `content` in triple quotes
abbrev pub IsInTripleQuotes : List ℕ → List ℕ → Type 0
IsInTripleQuotes text content = text ≡ 34 ∷ 34 ∷ 34 ∷ (content ++ 34 ∷ 34 ∷ 34 ∷ [])
