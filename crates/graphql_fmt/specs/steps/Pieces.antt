-- The tokens and the comments of an input as the program has them.
use Rattle.std.specs.Prelude.{◌≡◌, ℕ, true, List, [], ◌∷◌, ◌++◌, map}
use Rattle.std.specs.List.{list_all}
use Rattle.graphql_core.specs.declared.tokenizer.token.Kind.TheVariants.{BlockString}
use Rattle.graphql_core.specs.declared.tokenizer.element.ElementKind.{ElementKind}
use Rattle.graphql_core.specs.declared.tokenizer.element.ElementKind.TheVariants as element
use Rattle.graphql_core.specs.{Meaning, TokenOf, is_in_line}
use Rattle.graphql_core.specs.lexical.Elements.{element_kind}
use Rattle.graphql_core.specs.lexical.Lexical.{Piece as Element}
use Rattle.graphql_core.specs.declared.tokenizer.piece.Nesting.{Nesting}
use Rattle.graphql_standard.specs.lexical.Elements.{LexicalGrammar, IsDividedInto, IsEither}
use Rattle.graphql_fmt.specs.Keeping.{Kept, KeptComment, kept_token, trimmed}
use Rattle.graphql_fmt.specs.declared.pieces.piece.PieceKind.{PieceKind}
use Rattle.graphql_fmt.specs.declared.pieces.piece.PieceKind.TheVariants as piece
use Rattle.graphql_fmt.specs.declared.pieces.piece.Piece.{Piece}

-- what is kept of a token or a comment that is spelled so
abbrev pub kept_by : PieceKind → List ℕ → Kept
kept_by (piece.Token k) spelling = kept_token k spelling
kept_by piece.Comment spelling = KeptComment spelling

abbrev pub kept_piece : Piece → Kept
kept_piece p = kept_by p.kind p.text.now

-- a token of the lexical grammar, or a comment without white space at its end
abbrev pub IsSpelling : LexicalGrammar → PieceKind → List ℕ → Type 0
IsSpelling E (piece.Token k) s = (n : Nesting) × (rest : List ℕ) × E s (TokenOf k n) rest
IsSpelling E piece.Comment s = (line : List ℕ) × (s ≡ 35 ∷ line) × (list_all is_in_line line ≡ true) × (trimmed s ≡ s)

abbrev pub IsPiece : Piece → Type 0
IsPiece p = IsSpelling IsEither p.kind p.text.now × (p.is_indented ≡ true → p.kind ≡ piece.Token BlockString)

abbrev pub ArePieces : List Piece → Type 0
ArePieces [] = Unit {0}
ArePieces (p ∷ ps) = IsPiece p × ArePieces ps

-- some input begins with this element of either lexical grammar
abbrev pub IsSomeElement : ElementKind → List ℕ → Type 0
IsSomeElement kind bytes = (m : Meaning) × (rest : List ℕ) × IsEither bytes m rest × (element_kind bytes m ≡ kind)

-- ---- kinds and spellings

-- of ignored text only comments have a spelling
abbrev pub spelled_element : ElementKind → List ℕ → List (PieceKind × List ℕ)
spelled_element (element.Token k) bytes = (piece.Token k, bytes) ∷ []
spelled_element element.Comment bytes = (piece.Comment, trimmed bytes) ∷ []
spelled_element element.Ignored bytes = []

-- the kinds and the spellings of the tokens and the comments among lexical elements
abbrev pub spelled : List Element → List (PieceKind × List ℕ)
spelled [] = []
spelled (p ∷ ps) = spelled_element (element_kind p.bytes p.meaning) p.bytes ++ spelled ps

abbrev pub spelled_piece : Piece → PieceKind × List ℕ
spelled_piece p = (p.kind, p.text.now)

-- of the source before this rest, these are the tokens and the comments
abbrev pub HasCome : (source : List ℕ) → List Piece → (rest : List ℕ) → Type 0
HasCome source done rest =
    (ps : List Element) (stop : List ℕ) → IsDividedInto IsEither rest ps stop
    → (all : List Element) × IsDividedInto IsEither source all stop
    × (spelled all ≡ map spelled_piece done ++ spelled ps)

-- the whole source is elements of either lexical grammar, and these are its tokens and its comments
abbrev pub ArePiecesOf : (source : List ℕ) → List Piece → Type 0
ArePiecesOf source pieces =
    (ps : List Element) × IsDividedInto IsEither source ps [] × (spelled ps ≡ map spelled_piece pieces)
