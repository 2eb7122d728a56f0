use Rattle.std.proofs.Common.{◌≡◌, ◌<◌, false, length, slice_index_or}
use Rattle.graphql_standard.specs.steps.Stacks.{Comes}
use Rattle.graphql_standard.specs.steps.Groups.{number_of}
use Rattle.graphql_standard.specs.declared.terminal.Terminal.{Terminal}
use Rattle.graphql_standard.proofs.recognizer.Recognizer.expected.Given as goal

abbrev pub invariant-loop-i : goal.invariant-loop-i
invariant-loop-i l =
    (length l.terminals ≡ 39) × ((k : Terminal) → number_of k < l.i → Comes (slice_index_or l.terminals (number_of k) false) l.self.stack.items k)
