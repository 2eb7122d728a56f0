use Rattle.std.proofs.Common.{◌≡◌, ◌++◌, length, replicate}
use denote.Text.{Utf8}
use denote.Shadow.{shadow}
use Rattle.graphql_standard.proofs.checker.after_spaces.Given as goal

abbrev pub invariant-spaces : goal.invariant-spaces
invariant-spaces l = record {
  text : shadow (Utf8 l.rest);
  spaces : l.text ≡ replicate l.count 32 ++ l.rest;
}

abbrev pub decreases-spaces : goal.decreases-spaces
decreases-spaces l = length l.rest
