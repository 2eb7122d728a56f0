-- The bytes that appear in quotes without an escape.
use Rattle.std.specs.Prelude.{ℕ, Bool, not, ◌&&◌, ◌==◌, nat_le}

abbrev pub is_unescaped : ℕ → Bool
is_unescaped b = nat_le 32 b && (not (b == 34) && not (b == 92))
