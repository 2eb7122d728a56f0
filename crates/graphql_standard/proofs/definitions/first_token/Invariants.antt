use Rattle.std.proofs.Common.{◌≤◌, ℕ, List, length}
use denote.Text.{Utf8}
use denote.Shadow.{shadow}
use Rattle.graphql_core.specs.declared.tokenizer.token.Kind.{Kind}
use Rattle.graphql_standard.specs.AllErrors.{IsFirstToken}
use Rattle.graphql_standard.proofs.definitions.first_token.Given as goal

abbrev pub invariant-elements : goal.invariant-elements
invariant-elements l = record {
  text : shadow (Utf8 l.rest);
  short : length l.rest ≤ length l.text;
  more : (k : Kind) (b : List ℕ) → IsFirstToken l.rest k b → IsFirstToken l.text k b;
  less : (k : Kind) (b : List ℕ) → IsFirstToken l.text k b → IsFirstToken l.rest k b;
}

abbrev pub decreases-elements : goal.decreases-elements
decreases-elements l = length l.rest
