use Rattle.std.proofs.Common.{◌≤◌, length}
use denote.Text.{Utf8}
use denote.Shadow.{shadow}
use Rattle.graphql_fmt.specs.steps.Pieces.{HasCome, ArePieces}
use Rattle.graphql_fmt.proofs.pieces.source.pieces_of.Given as goal

abbrev pub invariant-elements : goal.invariant-elements
invariant-elements l = record {
  text : shadow (Utf8 l.rest);
  come : HasCome l.source l.pieces.items l.rest;
  pieces : ArePieces l.pieces.items;
  within : length l.rest ≤ length l.source;
}

abbrev pub decreases-elements : goal.decreases-elements
decreases-elements l = length l.rest
