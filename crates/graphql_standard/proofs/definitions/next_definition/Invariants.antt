use Rattle.std.proofs.Common.{ℕ, List, length}
use denote.Text.{Utf8}
use denote.Shadow.{shadow}
use Rattle.graphql_standard.specs.AllErrors.{IsDefinition, Reaches}
use Rattle.graphql_standard.specs.Places.{EndsWith}
use Rattle.graphql_standard.proofs.definitions.next_definition.Given as goal

abbrev pub invariant-elements : goal.invariant-elements
invariant-elements l = record {
  text : shadow (Utf8 l.end);
  ends : EndsWith l.source l.end;
  reached : Reaches l.part l.end;
  left : (other : List ℕ) → IsDefinition l.source l.part l.offset other → Reaches l.end other;
}

abbrev pub decreases-elements : goal.decreases-elements
decreases-elements l = length l.end
