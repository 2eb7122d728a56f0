use denote.Text.{Utf8}
use denote.Shadow.{shadow}
use Rattle.std.proofs.Common.{◌≡◌, ◌-◌, ◌≤◌, drop}
use Rattle.std.specs.Str.Lines.{lines}
use Rattle.graphql_core.proofs.common.strings.block.after_lines.Given as goal

abbrev pub invariant-lines : goal.invariant-lines
invariant-lines l = record {
  text : shadow (Utf8 l.rest);
  within : l.index ≤ l.count;
  left : drop l.index (lines l.content) ≡ lines l.rest;
}

abbrev pub decreases-lines : goal.decreases-lines
decreases-lines l = l.count - l.index
