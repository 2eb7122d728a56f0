use Rattle.std.proofs.Common.{◌≡◌, List, map}
use Rattle.graphql_core.specs.lexical.Lexical.{Piece as Element}
use Rattle.graphql_standard.specs.Checking.{HasChecked, left}
use Rattle.graphql_fmt.specs.steps.Pieces.{ArePieces, spelled, spelled_piece}
use Rattle.graphql_fmt.proofs.pieces.source.checked_pieces.Given as goal

abbrev pub invariant-elements : goal.invariant-elements
invariant-elements l = record {
  checked : (ps : List Element) × HasChecked l.limit l.source ps l.checker × (spelled ps ≡ map spelled_piece l.pieces.items);
  pieces : ArePieces l.pieces.items;
}

abbrev pub decreases-elements : goal.decreases-elements
decreases-elements l = left l.checker
