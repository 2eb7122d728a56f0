use Rattle.std.proofs.Common.{[], length}
use Rattle.graphql_standard.specs.theory.Stack.{Alike}
use Rattle.graphql_standard.specs.Grammar.{standard}
use Rattle.graphql_standard.specs.steps.Stacks.{stack_of}
use Rattle.graphql_standard.proofs.recognizer.can_end.Given as goal

abbrev pub invariant-symbols : goal.invariant-symbols
invariant-symbols l = Alike standard (stack_of l.stack) [] (stack_of l.rest) []

abbrev pub decreases-symbols : goal.decreases-symbols
decreases-symbols l = length l.rest
