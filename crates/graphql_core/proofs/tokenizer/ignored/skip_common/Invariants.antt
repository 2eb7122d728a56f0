use denote.Text.{Utf8}
use denote.Shadow.{shadow}
use Rattle.std.proofs.Common.{length}
use Rattle.graphql_core.specs.{SkipsTo}
use Rattle.graphql_core.proofs.tokenizer.ignored.skip_common.Given as goal

abbrev pub invariant-common : goal.invariant-common
invariant-common l = record {
  text : shadow (Utf8 l.rest);
  skipped : SkipsTo l.text l.fn.at l.rest l.place;
}

abbrev pub decreases-common : goal.decreases-common
decreases-common l = length l.rest
