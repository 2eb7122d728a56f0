-- The names of statuses.
use Rattle.std.specs.Prelude.{◌-◌, ℕ, List, [], ◌∷◌, ◌++◌, get_or, length, replicate, codes}

-- the names of the statuses, in the order of their numbers from 0
abbrev pub names : List (List ℕ)
names = codes "OK" ∷ codes "BAD_TOKEN" ∷ codes "UNEXPECTED_TOKEN" ∷ codes "UNEXPECTED_END" ∷ codes "TOO_DEEP"
    ∷ codes "INT_OUT_OF_RANGE" ∷ codes "MALFORMED_FLOAT" ∷ codes "BAD_ESCAPE" ∷ codes "UNKNOWN_LOCATION"
    ∷ codes "DUPLICATE_OPERATION" ∷ codes "UNKNOWN_OPERATION" ∷ codes "EMPTY_EXTENSION" ∷ codes "TEXT_TOO_LONG"
    ∷ codes "OUT_OF_MEMORY" ∷ codes "TOO_WIDE" ∷ codes "NOT_UTF8" ∷ codes "BUFFER_TOO_SHORT" ∷ []

-- the name of a status, which is empty if there is none
abbrev pub status_name : ℕ → List ℕ
status_name n = get_or names n []

-- a text in 32 bytes: the text, and then zero bytes
abbrev pub with_zeros : List ℕ → List ℕ
with_zeros text = text ++ replicate (32 - length text) 0
