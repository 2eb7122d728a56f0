-- Where a string ends, byte by byte. `IsStringBody` and `ClosesBlock` specify strings.
use Rattle.std.specs.Prelude.{ℕ, zero, suc, ◌+◌, Bool, false, not, ◌&&◌, ◌==◌, if◌then◌else◌, List, [], ◌∷◌}
use Rattle.std.specs.Prelude.{Option, Some, None}
use Rattle.graphql_core.specs.lexical.{begins_quotes, begins_escape}

-- the bytes up to the closing quote, including it, after `n` bytes
-- `escaped`: the last of the `n` bytes is an escaping backslash
unfoldable pub string_end : ℕ → Bool → List ℕ → Option ℕ
string_end n escaped [] = None
string_end n escaped (b ∷ bs) =
    if b == 10 then None
    else if not escaped && b == 34 then Some (n + 1)
    else string_end (n + 1) (not escaped && b == 92) bs

-- a backslash, and then a byte other than a line feed
abbrev pub begins_escaped : List ℕ → Bool
begins_escaped (a ∷ b ∷ more) = a == 92 && not (b == 10)
begins_escaped _ = false

-- the bytes up to the closing quotes, including them, after `n` bytes
-- `left`: how many of the next bytes belong to the same unit
unfoldable pub block_end : ℕ → ℕ → List ℕ → Option ℕ
block_end n left [] = None
block_end n zero (b ∷ bs) =
    if begins_quotes (b ∷ bs) then Some (n + 3)
    else if begins_escape (b ∷ bs) then block_end (n + 1) 3 bs
    else block_end (n + 1) 0 bs
block_end n (suc left) (b ∷ bs) = block_end (n + 1) left bs
