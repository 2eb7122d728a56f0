-- The part of a text after the last one of a character.
use Rattle.std.specs.Prelude.{◌≡◌, ◌⊎◌, ◌==◌, not, ℕ, Bool, true, List, [], ◌∷◌, ◌++◌}
use Rattle.std.specs.List.{list_all}

abbrev pub is_other : ℕ → ℕ → Bool
is_other c b = not (b == c)

-- the text is empty, or ends with `c`
abbrev pub EndsIn : (c : ℕ) → List ℕ → Type 0
EndsIn c text = (text ≡ []) ⊎ ((front : List ℕ) × (text ≡ front ++ c ∷ []))

-- the part of the text after the last `c`
abbrev pub IsAfterLast : (c : ℕ) → (text rest : List ℕ) → Type 0
IsAfterLast c text rest =
    (front : List ℕ) × (text ≡ front ++ rest) × EndsIn c front × (list_all (is_other c) rest ≡ true)
