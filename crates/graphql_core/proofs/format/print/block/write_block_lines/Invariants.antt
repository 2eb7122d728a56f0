use denote.Shadow.{shadow}
use denote.Text.{Utf8}
use Rattle.std.proofs.Common.{◌≡◌, ◌++◌, ℕ, List, length}
use Rattle.std.specs.List.{flat_map}
use Rattle.graphql_core.specs.{block_line, lines_of}
use Rattle.graphql_core.proofs.format.print.block.write_block_lines.Given as goal

abbrev pub invariant-lines : goal.invariant-lines
invariant-lines g l = record {
  text : shadow (Utf8 l.rest);
  written : (done : List ℕ) × g.S.Sink.took l.fn.out done l.out
      × (done ++ flat_map (block_line l.inside) (lines_of l.rest) ≡ flat_map (block_line l.inside) (lines_of l.text));
}

abbrev pub decreases-lines : goal.decreases-lines
decreases-lines g l = length (lines_of l.rest)
