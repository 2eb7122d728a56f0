-- Joined pieces have only gaps between them.
use Rattle.std.proofs.Common.{ℕ, true, false, List, [], ◌∷◌, map, inl, inr, refl, sym, subst}
use Rattle.graphql_core.specs.declared.tokenizer.token.Kind.TheVariants as kinds
use Rattle.graphql_standard.specs.lexical.Elements.{IsEither}
use Rattle.graphql_fmt.specs.declared.pieces.piece.PieceKind.{PieceKind}
use Rattle.graphql_fmt.specs.declared.pieces.piece.PieceKind.TheVariants as piece
use Rattle.graphql_fmt.specs.declared.pieces.piece.Piece.{Piece}
use Rattle.graphql_fmt.specs.declared.pieces.gap.Gap.{Gap}
use Rattle.graphql_fmt.specs.declared.pieces.gap.Gap.TheVariants.{Nothing, Space, Comma, Line}
use Rattle.graphql_fmt.specs.Tidy.{IsGap, gap_nothing, gap_space, gap_comma, gap_line, gap_blank, IsWrittenAs, AreAfterGaps, AreFormatted}
use Rattle.graphql_fmt.specs.steps.Pieces.{kept_by, kept_piece, spelled_piece, IsSpelling}
use Rattle.graphql_fmt.specs.steps.Joining.{gap_bytes, IsWrittenFor, AreJoinedAfter, AreJoined}
use Rattle.graphql_fmt.proofs.Elements.{AreSpelled, block_spelling}

is_gap : (g : Gap) → IsGap (gap_bytes g)
is_gap Nothing = gap_nothing
is_gap Space = gap_space
is_gap Comma = gap_comma
is_gap (Line indent true) = gap_blank indent
is_gap (Line indent false) = gap_line indent

written_by : (of : PieceKind) (s : List ℕ) → IsSpelling IsEither of s → IsWrittenAs (kept_by of s) s
written_by (piece.Token kinds.Punctuator) s is = refl
written_by (piece.Token kinds.Name) s is = refl
written_by (piece.Token kinds.IntValue) s is = refl
written_by (piece.Token kinds.FloatValue) s is = refl
written_by (piece.Token kinds.StringValue) s is = refl
written_by (piece.Token kinds.BlockString) s is = (block_spelling s is, refl)
written_by piece.Comment s is = refl

written_as : (p : Piece) (s : List ℕ) → IsSpelling IsEither p.kind p.text.now → IsWrittenFor p s → IsWrittenAs (kept_piece p) s
written_as p s is (inl e) = subst (IsWrittenAs (kept_piece p)) (sym e) (written_by p.kind p.text.now is)
written_as p s is (inr (kind, same)) = subst (λ (k : PieceKind). IsWrittenAs (kept_by k p.text.now) s) (sym kind) same

after_gaps : (before : PieceKind) (ps : List Piece) (text : List ℕ) → AreSpelled IsEither (map spelled_piece ps) → AreJoinedAfter before ps text
    → AreAfterGaps (map kept_piece ps) text
after_gaps before [] text is e = e
after_gaps before (p ∷ ps) text (one, is) (gap, s, rest, e, apart, written, more) =
    (gap_bytes gap, s, rest, e, is_gap gap, written_as p s one written, after_gaps p.kind ps rest is more)

pub formatted : (ps : List Piece) (text : List ℕ) → AreSpelled IsEither (map spelled_piece ps) → AreJoined ps text → AreFormatted (map kept_piece ps) text
formatted [] text is e = e
formatted (p ∷ ps) text (one, is) (s, rest, e, written, more) = (s, rest, e, written_as p s one written, after_gaps p.kind ps rest is more)
