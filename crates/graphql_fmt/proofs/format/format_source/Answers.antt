use Rattle.std.proofs.Common.{sym, subst, List}
use Rattle.graphql_fmt.specs.declared.pieces.piece.Piece.{Piece}
use Rattle.graphql_fmt.specs.steps.Pieces.{ArePiecesOf}
use Rattle.graphql_fmt.proofs.Formatting.{same_documents}
use Rattle.graphql_fmt.proofs.format.format_source.Goals as goal

pub returns-clause-kept : goal.returns-clause-kept
returns-clause-kept c =
    let of = subst (λ (ps : List Piece). ArePiecesOf c.args.source.now ps) (sym c.deref.ensures.value) c.in_ok-pieces.ensures.pieces.0 in
    (c.in_ok-text.ensures c.args.source.now of).0

pub returns-clause-tidy : goal.returns-clause-tidy
returns-clause-tidy c =
    let of = subst (λ (ps : List Piece). ArePiecesOf c.args.source.now ps) (sym c.deref.ensures.value) c.in_ok-pieces.ensures.pieces.0 in
    (c.in_ok-text.ensures c.args.source.now of).1

pub returns-clause-same_document : goal.returns-clause-same_document
returns-clause-same_document c =
    let of = subst (λ (ps : List Piece). ArePiecesOf c.args.source.now ps) (sym c.deref.ensures.value) c.in_ok-pieces.ensures.pieces.0 in
    same_documents c.args.source.now _ (c.in_ok-text.ensures c.args.source.now of).0
