use Rattle.std.proofs.Common.{drop, string_bytes}
use Rattle.graphql_fmt.specs.steps.Pieces.{ArePieces}
use Rattle.graphql_fmt.proofs.Joining.{Joins}
use Rattle.graphql_fmt.proofs.pieces.join.joined.Given as goal

abbrev pub invariant-pieces : goal.invariant-pieces
invariant-pieces l = record {
  joins : Joins l.pieces (string_bytes l.out) l.before (drop l.piece-index l.others);
  left : ArePieces (drop l.piece-index l.others);
}
