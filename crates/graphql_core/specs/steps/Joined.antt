-- Strings with a separator between two.
use Rattle.std.specs.Prelude.{ℕ, List, [], ◌∷◌, ◌++◌}
use Rattle.std.specs.List.{flat_map}

abbrev pub joined : List ℕ → List (List ℕ) → List ℕ
joined separator [] = []
joined separator (t ∷ ts) = t ++ flat_map (λ u. separator ++ u) ts

-- each string with another before it: `first` before the first one, and `separator` before the others
abbrev pub led : List ℕ → List ℕ → List (List ℕ) → List ℕ
led first separator [] = []
led first separator (t ∷ ts) = first ++ (t ++ led separator separator ts)
