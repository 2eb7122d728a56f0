-- One more token, for the number of brackets.
use Rattle.std.specs.Prelude.{◌≡◌, ◌<◌, ◌≤◌, ◌+◌, ℕ, Bool, true, if◌then◌else◌}
use Rattle.graphql_core.specs.{Token}
use Rattle.graphql_standard.specs.Checking.{is_opening, is_closing}
use Rattle.graphql_standard.specs.declared.brackets.Brackets.{Brackets}

abbrev pub one_if : Bool → ℕ
one_if b = if b then 1 else 0

-- the token is an opening bracket, and `limit` brackets are open
abbrev pub IsOneTooMany : Brackets → Token → ℕ → Type 0
IsOneTooMany b t limit = (is_opening t ≡ true) × (b.closers + limit ≤ b.openers)

-- these are the brackets with the token, and if it is an opening bracket, fewer than `limit` brackets were open
abbrev pub Counts : Brackets → Token → ℕ → Brackets → Type 0
Counts old t limit new =
    (new.openers ≡ old.openers + one_if (is_opening t)) × (new.closers ≡ old.closers + one_if (is_closing t))
    × (is_opening t ≡ true → old.openers < old.closers + limit)
