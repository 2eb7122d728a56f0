use denote.Text.{Utf8}
use denote.Shadow.{shadow}
use Rattle.std.proofs.Common.{◌≡◌, ◌+◌, ◌≤◌, length, drop}
use Rattle.std.specs.Str.Lines.{lines}
use Rattle.graphql_core.specs.steps.BlockShape.{IsShape}
use Rattle.graphql_core.proofs.common.strings.block.shape_of.Given as goal

abbrev pub invariant-lines : goal.invariant-lines
invariant-lines l = record {
  text : shadow (Utf8 l.rest);
  short : l.index + length l.rest ≤ length l.content;
  within : l.index ≤ length (lines l.content);
  left : drop l.index (lines l.content) ≡ lines l.rest;
  is : IsShape l.shape l.index (lines l.content);
}

abbrev pub decreases-lines : goal.decreases-lines
decreases-lines l = length l.rest
