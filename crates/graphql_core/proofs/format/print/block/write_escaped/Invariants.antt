use denote.Text.{Utf8}
use denote.Shadow.{shadow}
use Rattle.std.proofs.Common.{◌≡◌, ◌++◌, ℕ, List, length}
use Rattle.graphql_core.specs.{escaped_quotes}
use Rattle.graphql_core.proofs.format.print.block.write_escaped.Given as goal

abbrev pub invariant-quotes : goal.invariant-quotes
invariant-quotes g l = record {
  text : shadow (Utf8 l.rest);
  written : (done : List ℕ) × g.S.Sink.took l.fn.out done l.out × (done ++ escaped_quotes l.rest ≡ escaped_quotes l.line);
}

abbrev pub decreases-quotes : goal.decreases-quotes
decreases-quotes g l = length l.rest
