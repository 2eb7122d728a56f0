use Rattle.std.proofs.Common.{◌≡◌, List, ◌∷◌, ◌++◌, length}
use Rattle.graphql_core.specs.{Token}
use Rattle.graphql_standard.specs.theory.Stack.{Alike}
use Rattle.graphql_standard.specs.Grammar.{standard}
use Rattle.graphql_standard.specs.steps.Stacks.{stack_of}
use Rattle.graphql_standard.specs.declared.symbol.Symbol.{Symbol}
use Rattle.graphql_standard.specs.Terminals.{IsTokenOf}
use Rattle.graphql_standard.proofs.recognizer.next_step.Given as goal

abbrev pub invariant-symbols : goal.invariant-symbols
invariant-symbols l =
    ((t : Token) → IsTokenOf l.terminal t → (ts : List Token)
    → Alike standard (stack_of l.stack) (t ∷ ts) (stack_of l.rest) (t ∷ ts))
    × ((above : List Symbol) × (l.stack ≡ l.rest ++ above))

abbrev pub decreases-symbols : goal.decreases-symbols
decreases-symbols l = length l.rest
