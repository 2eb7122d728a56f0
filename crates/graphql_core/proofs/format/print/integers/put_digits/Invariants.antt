use Rattle.std.proofs.Common.{◌≡◌, ◌^◌, ◌<◌, ◌≤◌, ◌++◌, length, drop}
use Rattle.std.specs.Fmt.{decimal}
use Rattle.graphql_core.proofs.format.print.integers.put_digits.Given as goal

abbrev pub invariant-pairs : goal.invariant-pairs
invariant-pairs l = (l.rest < 2 ^ 64) × (length (decimal l.rest) ≤ l.end) × (l.end ≤ 20) × (decimal l.rest ++ drop l.end l.digits ≡ decimal l.number)

abbrev pub decreases-pairs : goal.decreases-pairs
decreases-pairs l = l.rest
