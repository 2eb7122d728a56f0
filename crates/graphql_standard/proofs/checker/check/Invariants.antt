use Rattle.std.proofs.Common.{List}
use Rattle.graphql_core.specs.{Piece}
use Rattle.graphql_standard.specs.Checking.{HasChecked, left}
use Rattle.graphql_standard.proofs.checker.check.Given as goal

abbrev pub invariant-elements : goal.invariant-elements
invariant-elements l = (ps : List Piece) × HasChecked l.limit l.source ps l.checker

abbrev pub decreases-elements : goal.decreases-elements
decreases-elements l = left l.checker
