use Rattle.std.proofs.Common.{ap, sym, subst, ◌∙◌}
use Rattle.graphql_core.specs.{has_block_lines}
use Rattle.graphql_core.specs.values.Leaves.{without_ends}
use Rattle.graphql_standard.specs.lexical.Elements.{IsEither}
use Rattle.graphql_fmt.specs.declared.pieces.piece.PieceKind.{PieceKind}
use Rattle.graphql_fmt.specs.steps.Pieces.{IsSpelling}
use Rattle.graphql_fmt.proofs.Elements.{block_spelling, block_quotes}
use Rattle.graphql_fmt.proofs.Joining.{block_written, appends_for}
use Rattle.graphql_fmt.proofs.pieces.join.push_spelling.Goals as goal

pub unquote_block_string-requires : goal.unquote_block_string-requires
unquote_block_string-requires c =
    let p = c.args.piece.now in
    let kind = c.requires.1 c.if-not-piece.false in
    (without_ends 3 p.text.now, block_quotes _ (block_spelling _ (subst (λ (k : PieceKind). IsSpelling IsEither k p.text.now) kind c.requires.0)))

pub returns-then-has_block_lines : goal.returns-then-has_block_lines
returns-then-has_block_lines c =
    let p = c.args.piece.now in
    let kind = c.requires.1 c.if-not-piece.false in
    let quotes = block_quotes _ (block_spelling _ (subst (λ (k : PieceKind). IsSpelling IsEither k p.text.now) kind c.requires.0)) in
    let same = c.deref-then-has_block_lines.ensures in
    let value = same ∙ c.in_ok-value.ensures (without_ends 3 p.text.now) quotes in
    let lines = ap has_block_lines (same ∙ sym c.deref.ensures) ∙ sym c.has_block_lines.ensures ∙ c.if-has_block_lines.true in
    appends_for _ p _ _ _ (block_written p c.args.margin c.deref-then-has_block_lines.result.now kind value lines) c.write_block.ensures
