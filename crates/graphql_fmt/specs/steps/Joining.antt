-- Tokens and comments, joined with white space and commas.
use Rattle.std.specs.Prelude.{◌≡◌, ◌⊎◌, ℕ, false, if◌then◌else◌, List, [], ◌∷◌, ◌++◌, replicate}
use Rattle.graphql_core.specs.{kind_number, nowhere, block_string_of}
use Rattle.graphql_core.specs.sources.Minified.{is_spaced}
use Rattle.graphql_core.specs.declared.tokenizer.token.Kind.{Kind}
use Rattle.graphql_core.specs.declared.tokenizer.token.Kind.TheVariants.{BlockString}
use Rattle.graphql_fmt.specs.declared.pieces.gap.Gap.{Gap}
use Rattle.graphql_fmt.specs.declared.pieces.gap.Gap.TheVariants.{Nothing, Space, Comma, Line}
use Rattle.graphql_fmt.specs.declared.pieces.piece.PieceKind.{PieceKind}
use Rattle.graphql_fmt.specs.declared.pieces.piece.PieceKind.TheVariants as piece
use Rattle.graphql_fmt.specs.declared.pieces.piece.Piece.{Piece}
use Rattle.graphql_fmt.specs.Tidy.{IsBlockString}

abbrev pub gap_bytes : Gap → List ℕ
gap_bytes Nothing = []
gap_bytes Space = 32 ∷ []
gap_bytes Comma = 44 ∷ 32 ∷ []
gap_bytes (Line indent is_blank) = 10 ∷ (if is_blank then 10 ∷ [] else []) ++ replicate indent 32

abbrev pub EndsLine : List ℕ → Type 0
EndsLine [] = ⊥
EndsLine (b ∷ bs) = b ≡ 10

-- nothing comes between the token and the next piece only if the two do not need a space
abbrev pub IsApartToken : Kind → List ℕ → PieceKind → List ℕ → Type 0
IsApartToken k (b ∷ bs) kind spelling = Unit {0}
IsApartToken k [] piece.Comment spelling = Unit {0}
IsApartToken k [] (piece.Token j) spelling =
    is_spaced (kind_number k) (record { kind = kind_number j; spelling = spelling; place = nowhere }) ≡ false

-- the gap keeps the two pieces apart: after a comment it ends the line
abbrev pub IsApart : (before : PieceKind) → (gap : List ℕ) → (kind : PieceKind) → (spelling : List ℕ) → Type 0
IsApart (piece.Token k) gap kind spelling = IsApartToken k gap kind spelling
IsApart piece.Comment gap kind spelling = EndsLine gap

-- the other text is a block string of the same value
abbrev pub HasSameBlock : (spelling other : List ℕ) → Type 0
HasSameBlock spelling other = IsBlockString other × (block_string_of other ≡ block_string_of spelling)

-- the piece as it is, or another block string of the same value
abbrev pub IsWrittenFor : Piece → List ℕ → Type 0
IsWrittenFor p s = (s ≡ p.text.now) ⊎ (p.kind ≡ piece.Token BlockString × HasSameBlock p.text.now s)

-- these pieces, each after a gap that keeps it apart from the piece before it, and then one line feed
abbrev pub AreJoinedAfter : (before : PieceKind) → List Piece → (text : List ℕ) → Type 0
AreJoinedAfter before [] text = text ≡ 10 ∷ []
AreJoinedAfter before (p ∷ ps) text =
    (gap : Gap) × (s rest : List ℕ) × (text ≡ gap_bytes gap ++ (s ++ rest))
    × IsApart before (gap_bytes gap) p.kind p.text.now × IsWrittenFor p s × AreJoinedAfter p.kind ps rest

-- the text is empty, or the first of these pieces, the others, each after a gap, and one line feed
abbrev pub AreJoined : List Piece → (text : List ℕ) → Type 0
AreJoined [] text = text ≡ []
AreJoined (p ∷ ps) text = (s rest : List ℕ) × (text ≡ s ++ rest) × IsWrittenFor p s × AreJoinedAfter p.kind ps rest
