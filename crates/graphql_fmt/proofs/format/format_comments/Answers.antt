use Rattle.std.proofs.Common.{rules, sym, subst, List}
use Rattle.std.proofs.lemmas.Option.{MatchOption-at_none}
use Rattle.graphql_fmt.specs.{HasNoToken}
use Rattle.graphql_fmt.specs.declared.pieces.piece.Piece.{Piece}
use Rattle.graphql_fmt.specs.steps.Pieces.{ArePiecesOf}
use Rattle.graphql_fmt.proofs.NoTokens.{some_kept}
use Rattle.graphql_fmt.proofs.format.format_comments.Goals as goal

pub unreachable-requires : goal.unreachable-requires
unreachable-requires c =
    let none : HasNoToken c.args.source.now = search rules in
    let (ks, has) = some_kept c.args.source.now none in
    MatchOption-at_none _ _ c.in-None.is c.in_ok-pieces.ensures.kept ks has

pub returns-clause-kept : goal.returns-clause-kept
returns-clause-kept c =
    let none : HasNoToken c.args.source.now = search rules in
    let (of, pieces) = rw c.in-Some.is at c.in_ok-pieces.ensures.kept in
    let of-now = subst (λ (ps : List Piece). ArePiecesOf c.args.source.now ps) (sym c.deref.ensures.value) of in
    (search rules, none, (c.in_ok-written-in-Some.ensures c.args.source.now of-now).0)

pub returns-clause-tidy : goal.returns-clause-tidy
returns-clause-tidy c =
    let (of, pieces) = rw c.in-Some.is at c.in_ok-pieces.ensures.kept in
    let of-now = subst (λ (ps : List Piece). ArePiecesOf c.args.source.now ps) (sym c.deref.ensures.value) of in
    (c.in_ok-written-in-Some.ensures c.args.source.now of-now).1
