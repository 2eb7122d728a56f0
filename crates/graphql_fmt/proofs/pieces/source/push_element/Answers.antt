use Rattle.std.proofs.Common.{ap, sym, subst, ◌∙◌}
use Rattle.graphql_core.proofs.{false≢true}
use Rattle.graphql_core.specs.declared.tokenizer.element.ElementKind.{ElementKind}
use Rattle.graphql_fmt.specs.declared.pieces.piece.PieceKind.{PieceKind}
use Rattle.graphql_fmt.specs.declared.pieces.piece.PieceKind.TheVariants as piece
use Rattle.graphql_standard.specs.lexical.Elements.{IsEither}
use Rattle.graphql_fmt.specs.steps.Pieces.{IsSomeElement, IsSpelling, ArePieces}
use Rattle.graphql_fmt.proofs.Elements.{token_spelling, comment_spelling, block_spelling}
use Rattle.graphql_fmt.proofs.Joining.{add_pieces}
use Rattle.graphql_fmt.proofs.pieces.source.push_element.Goals as goal
use Rattle.graphql_fmt.proofs.pieces.source.push_element.Goals.{in-Token, in-Comment}
use Rattle.graphql_fmt.proofs.pieces.source.push_element.Goals.{in-Token-BlockString+in_ok-is_indented-in-Token-BlockString, in_default, in_default-2}

pub is_indentable-requires : goal.is_indentable-requires
is_indentable-requires c =
    let bytes = c.args.element.now.text.now in
    let element = c.requires.element in
    let kind = c.match-element.kind.0 in
    let text = c.match-element.kind.1.now in
    let token = c.in-Token-BlockString in
    let block = rw token.is at token.field-0-is in
    let spelling : IsSpelling IsEither kind text = elim c.match-element.branch [
      | in-Token w ↦ rw w.kind-is (token_spelling w.in-Token.kind bytes (subst (λ (k : ElementKind). IsSomeElement k bytes) w.in-Token.is element))
      | in-Comment w ↦ rw (w.kind-is, w.trimmed.ensures) (comment_spelling bytes (subst (λ (k : ElementKind). IsSomeElement k bytes) w.in-Comment.is element))
    ] in
    block_spelling text (subst (λ (k : PieceKind). IsSpelling IsEither k text) (token.is ∙ ap piece.Token block) spelling)

pub returns-clause-pieces : goal.returns-clause-pieces
returns-clause-pieces c all =
    let bytes = c.args.element.now.text.now in
    let element = c.requires.element in
    let kind = c.match-element.kind.0 in
    let text = c.match-element.kind.1.now in
    let spelling : IsSpelling IsEither kind text = elim c.match-element.branch [
      | in-Token w ↦ rw w.kind-is (token_spelling w.in-Token.kind bytes (subst (λ (k : ElementKind). IsSomeElement k bytes) w.in-Token.is element))
      | in-Comment w ↦ rw (w.kind-is, w.trimmed.ensures) (comment_spelling bytes (subst (λ (k : ElementKind). IsSomeElement k bytes) w.in-Comment.is element))
    ] in
    subst ArePieces (sym c.in_ok-push.ensures.items) (add_pieces c.args.pieces.now.items _ all (
      spelling,
      elim c.match-kind.branch [
        | in-Token-BlockString+in_ok-is_indented-in-Token-BlockString w ↦
            let token = w.in-Token-BlockString in
            let block = rw token.is at token.field-0-is in
            λ set. token.is ∙ ap piece.Token block
        | in_default w ↦ λ set. absurd (false≢true (sym w.is_indented-is ∙ set))
        | in_default-2 w ↦ λ set. absurd (false≢true (sym w.is_indented-is ∙ set))
      ],
    ))
