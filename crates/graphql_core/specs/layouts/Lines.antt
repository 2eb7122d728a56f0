-- Layouts of lines in braces, of definitions, and of parts before or after another part on a line.
use Rattle.std.specs.Prelude.{ℕ, List, [], ◌∷◌, ◌++◌, codes}
use Rattle.graphql_core.specs.layouts.Style.{spaces}
use Rattle.graphql_core.specs.layouts.TextParts.{Part, punctuator_part, gap}

-- lines in braces, with the closing brace at the margin
abbrev pub in_braces : ℕ → List Part → List Part
in_braces margin lines = punctuator_part (codes "{")
    ++ (gap (codes "\n") ++ (lines ++ (gap (spaces margin) ++ (punctuator_part (codes "}") ++ gap (codes "\n")))))

-- each element, with this white space before it
abbrev pub each_after : {A : Type 0} → List ℕ → (A → List Part) → List A → List Part
each_after text lines [] = []
each_after text lines (x ∷ xs) = gap text ++ (lines x ++ each_after text lines xs)

-- each element, with an empty line before it
abbrev pub later : {A : Type 0} → (A → List Part) → List A → List Part
later = each_after (codes "\n")

-- the elements, with an empty line between two
abbrev pub separated : {A : Type 0} → (A → List Part) → List A → List Part
separated lines [] = []
separated lines (x ∷ xs) = lines x ++ later lines xs

-- each element, with a comma and a space before it
abbrev pub after_commas : {A : Type 0} → (A → List Part) → List A → List Part
after_commas = each_after (codes ", ")

-- the elements in parentheses, with a comma and a space between two, in every style
abbrev pub in_parentheses : {A : Type 0} → (A → List Part) → List A → List Part
in_parentheses lines [] = []
in_parentheses lines (x ∷ xs) =
    punctuator_part (codes "(") ++ (lines x ++ (after_commas lines xs ++ punctuator_part (codes ")")))
