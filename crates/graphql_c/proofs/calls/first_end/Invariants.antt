use Rattle.std.proofs.Common.{◌<◌, ◌-◌, length}
use Rattle.graphql_c.proofs.calls.first_end.Given as goal

abbrev pub invariant-fronts : goal.invariant-fronts
invariant-fronts l = 0 < l.length

abbrev pub decreases-fronts : goal.decreases-fronts
decreases-fronts l = length l.bytes - l.length
