use denote.Text.{Utf8}
use denote.Shadow.{shadow}
use Rattle.std.proofs.Common.{length}
use Rattle.graphql_core.specs.{SkipsTo}
use Rattle.graphql_core.proofs.tokenizer.ignored.skip_elements.Given as goal

abbrev pub invariant-skips : goal.invariant-skips
invariant-skips l = record {
  text : shadow (Utf8 l.rest);
  skipped : SkipsTo l.text l.fn.at l.rest l.place;
}

abbrev pub decreases-skips : goal.decreases-skips
decreases-skips l = length l.rest
