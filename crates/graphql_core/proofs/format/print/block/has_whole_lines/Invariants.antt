use denote.Shadow.{shadow}
use denote.Text.{Utf8}
use Rattle.std.proofs.Common.{◌≡◌, length}
use Rattle.std.specs.List.{list_all}
use Rattle.graphql_core.specs.{lines_of}
use Rattle.graphql_core.proofs.{is_whole}
use Rattle.graphql_core.proofs.format.print.block.has_whole_lines.Given as goal

abbrev pub invariant-lines : goal.invariant-lines
invariant-lines l = record {
  text : shadow (Utf8 l.rest);
  whole : list_all is_whole (lines_of l.rest) ≡ list_all is_whole (lines_of l.text);
}

abbrev pub decreases-lines : goal.decreases-lines
decreases-lines l = length (lines_of l.rest)
