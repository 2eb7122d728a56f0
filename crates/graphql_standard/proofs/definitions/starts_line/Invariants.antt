use Rattle.std.specs.List.{list_all}
use Rattle.std.proofs.Common.{◌≡◌, ℕ, true, List, ◌++◌, length}
use Rattle.graphql_standard.specs.AllErrors.{is_blank}
use Rattle.graphql_standard.proofs.definitions.starts_line.Given as goal

abbrev pub invariant-bytes : goal.invariant-bytes
invariant-bytes l = (blanks : List ℕ) × (l.front ≡ l.rest ++ blanks) × (list_all is_blank blanks ≡ true)

abbrev pub decreases-bytes : goal.decreases-bytes
decreases-bytes l = length l.rest
