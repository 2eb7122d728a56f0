use Rattle.std.specs.List.{prefix_len}
use Rattle.std.proofs.Common.{◌≡◌, ◌+◌, ◌-◌, ◌≤◌, length, drop}
use Rattle.graphql_core.proofs.tokenizer.run.len_by_loads.Given as goal

abbrev pub invariant-loads : goal.invariant-loads
invariant-loads g l =
    (l.start ≤ length l.bytes) × (prefix_len g.C.Class.has l.bytes ≡ l.start + prefix_len g.C.Class.has (drop l.start l.bytes))

abbrev pub decreases-loads : goal.decreases-loads
decreases-loads g l = length l.bytes - l.start
