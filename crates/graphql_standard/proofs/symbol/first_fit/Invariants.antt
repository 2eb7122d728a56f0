use Rattle.std.proofs.Common.{◌≡◌, drop}
use Rattle.graphql_standard.specs.steps.Fitting.{step_by}
use Rattle.graphql_standard.specs.declared.symbol.Step.{Step}
use Rattle.graphql_standard.proofs.symbol.first_fit.Given as goal

abbrev pub invariant-loop-rule : goal.invariant-loop-rule
invariant-loop-rule l =
    (other : Step) → step_by l.rules l.terminal other ≡ step_by (drop l.rule-index l.rules) l.terminal other
