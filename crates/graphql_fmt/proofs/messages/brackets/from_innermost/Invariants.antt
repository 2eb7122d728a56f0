use Rattle.std.proofs.Common.{◌≤◌, length}
use denote.Text.{Utf8}
use denote.Shadow.{shadow}
use Rattle.graphql_fmt.proofs.messages.brackets.from_innermost.Given as goal

abbrev pub invariant-elements : goal.invariant-elements
invariant-elements l = record {
  text : shadow (Utf8 l.rest);
  within : length l.rest ≤ length l.text;
}

abbrev pub decreases-elements : goal.decreases-elements
decreases-elements l = length l.rest
