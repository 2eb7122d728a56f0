use Rattle.std.proofs.Common.{◌≡◌, ◌≤◌, ◌++◌, vec_capacity}
use Rattle.graphql_standard.proofs.recognizer.push_all.Given as goal

abbrev pub invariant-loop-next : goal.invariant-loop-next
invariant-loop-next l = (l.stack.items ≡ l.initial.stack.items ++ l.yielded)
    × (vec_capacity l.initial.stack ≤ vec_capacity l.stack)
