-- What comes between the tokens and the comments of an output.
use Rattle.std.specs.Prelude.{◌≡◌, ℕ, List, [], ◌∷◌, ◌++◌, replicate}
use Rattle.graphql_core.specs.declared.tokenizer.piece.Nesting.{Nesting}
use Rattle.graphql_core.specs.declared.tokenizer.token.Kind.TheVariants.{BlockString}
use Rattle.graphql_core.specs.{TokenOf, IsLexicalElement, block_string_of}
use Rattle.graphql_standard.specs.lexical.Elements.{IsEither}
use Rattle.graphql_fmt.specs.Keeping.{Kept, KeptToken, KeptBlock, KeptComment, HasKept}

-- What can come between two of them: nothing, a space, a comma and a space, or a line end, at most one empty line, and
-- the spaces that the next line begins with.
pub data IsGap : List ℕ → Type 0 where
  gap_nothing : IsGap []
  gap_space : IsGap (32 ∷ [])
  gap_comma : IsGap (44 ∷ 32 ∷ [])
  gap_line : (indent : ℕ) → IsGap (10 ∷ replicate indent 32)
  gap_blank : (indent : ℕ) → IsGap (10 ∷ 10 ∷ replicate indent 32)

-- a block string, which is the same in each lexical grammar
abbrev pub IsBlockString : List ℕ → Type 0
IsBlockString s = (n : Nesting) × (rest : List ℕ) × IsLexicalElement s (TokenOf BlockString n) rest

-- The bytes of a token, or of a comment without its line end. A block string can be any of this value.
abbrev pub IsWrittenAs : Kept → List ℕ → Type 0
IsWrittenAs (KeptToken k bytes) s = s ≡ bytes
IsWrittenAs (KeptBlock value) s = IsBlockString s × (block_string_of s ≡ value)
IsWrittenAs (KeptComment bytes) s = s ≡ bytes

-- these, each after a gap, and then one line feed
abbrev pub AreAfterGaps : List Kept → (text : List ℕ) → Type 0
AreAfterGaps [] text = text ≡ 10 ∷ []
AreAfterGaps (k ∷ ks) text =
    (gap s rest : List ℕ) × (text ≡ gap ++ (s ++ rest)) × IsGap gap × IsWrittenAs k s × AreAfterGaps ks rest

-- the text is empty, or the first of these, the others, each after a gap, and one line feed
abbrev pub AreFormatted : List Kept → (text : List ℕ) → Type 0
AreFormatted [] text = text ≡ []
AreFormatted (k ∷ ks) text = (s rest : List ℕ) × (text ≡ s ++ rest) × IsWrittenAs k s × AreAfterGaps ks rest

-- The text is its tokens and its comments with gaps between them, and one line feed. Without any it is empty.
abbrev pub IsTidy : List ℕ → Type 0
IsTidy text = (ks : List Kept) × HasKept IsEither text ks × AreFormatted ks text
