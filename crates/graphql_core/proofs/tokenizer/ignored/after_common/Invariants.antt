use denote.Text.{Utf8}
use denote.Shadow.{shadow}
use Rattle.std.proofs.Common.{◌≤◌, length}
use Rattle.graphql_core.specs.{HasContentsOf}
use Rattle.graphql_core.proofs.tokenizer.ignored.after_common.Given as goal

abbrev pub invariant-common : goal.invariant-common
invariant-common l = record {
  text : shadow (Utf8 l.rest);
  left : HasContentsOf l.rest l.text;
  within : length l.rest ≤ length l.text;
}

abbrev pub decreases-common : goal.decreases-common
decreases-common l = length l.rest
