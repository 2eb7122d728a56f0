use Rattle.graphql_standard.specs.steps.Parts.{left_of}
use Rattle.graphql_standard.proofs.AllErrors.{HasSoFar}
use Rattle.graphql_standard.proofs.errors.check_all.Given as goal

abbrev pub invariant-parts : goal.invariant-parts
invariant-parts l = HasSoFar l.limit l.source l.errors.items l.next

abbrev pub decreases-parts : goal.decreases-parts
decreases-parts l = left_of l.next
