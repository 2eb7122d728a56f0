-- The bytes that the characters of block form can have. Characters past U+FFFF begin with a byte of at least 240.
use Rattle.std.specs.Prelude.{ℕ, Bool, ◌||◌, ◌&&◌, ◌==◌, nat_le, nat_lt}

abbrev pub is_block_byte : ℕ → Bool
is_block_byte b = b == 10 || (b == 13 || (b == 9 || (nat_le 32 b && nat_lt b 240)))
