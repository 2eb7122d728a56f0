-- The ASTs that some small values denote, written out.
use Rattle.std.specs.Prelude.{◌≡◌, [], ◌∷◌, true, false, pos, codes}
use Rattle.graphql_core.specs.values.Values.{int, no_members, member}
use Rattle.graphql_core.specs.values.Leaves.{int_of, has_whole_exponent, is_in_range}
use Rattle.graphql_core.specs.values.Meanings.{put_all}

-- `{b: 1, a: 2, b: 3}`: the fields are in the order of their names, and the last of equal names counts
abbrev pub EqualNames : Type 0
EqualNames =
    put_all ((codes "b", int (pos 1)) ∷ (codes "a", int (pos 2)) ∷ (codes "b", int (pos 3)) ∷ []) no_members
    ≡ member (codes "a") (int (pos 2)) (member (codes "b") (int (pos 3)) no_members)

-- minus zero is zero
abbrev pub MinusZero : Type 0
MinusZero = int_of (codes "-0") ≡ pos 0

-- the least and the greatest integer with a value, and the integers just past them
abbrev pub Range : Type 0
Range =
    (is_in_range (codes "-9223372036854775808") ≡ true)
    × (is_in_range (codes "-9223372036854775809") ≡ false)
    × (is_in_range (codes "9223372036854775807") ≡ true)
    × (is_in_range (codes "9223372036854775808") ≡ false)

-- a token can have an exponent without digits, but then it has no value
abbrev pub Exponents : Type 0
Exponents = (has_whole_exponent (codes "1e+") ≡ false) × (has_whole_exponent (codes "1e+2") ≡ true)
