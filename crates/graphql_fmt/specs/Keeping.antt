-- What formatting keeps of an input: its tokens and its comments, in order.
use Rattle.std.specs.Prelude.{◌≡◌, ℕ, if◌then◌else◌, List, [], ◌∷◌, ◌++◌}
use Rattle.std.specs.Char.{is_ascii_whitespace}
use Rattle.graphql_core.specs.declared.tokenizer.token.Kind.{Kind}
use Rattle.graphql_core.specs.declared.tokenizer.token.Kind.TheVariants.{Punctuator, Name, IntValue, FloatValue}
use Rattle.graphql_core.specs.declared.tokenizer.token.Kind.TheVariants.{StringValue, BlockString}
use Rattle.graphql_core.specs.declared.tokenizer.element.ElementKind.{ElementKind}
use Rattle.graphql_core.specs.declared.tokenizer.element.ElementKind.TheVariants as element
use Rattle.graphql_core.specs.{Piece, IsLexicalElement, block_string_of}
use Rattle.graphql_core.specs.lexical.Elements.{element_kind}
use Rattle.graphql_standard.specs.lexical.Elements.{LexicalGrammar, IsDividedInto, IsElement, IsEither}

-- a byte before some bytes that have no white space at their end
abbrev pub trimmed_after : ℕ → List ℕ → List ℕ
trimmed_after b [] = if is_ascii_whitespace b then [] else b ∷ []
trimmed_after b (c ∷ cs) = b ∷ c ∷ cs

-- without the ASCII white space at the end: spaces, tabs, line feeds, form feeds and carriage returns
abbrev pub trimmed : List ℕ → List ℕ
trimmed [] = []
trimmed (b ∷ bs) = trimmed_after b (trimmed bs)

-- A block string is kept by its value, and any other token by its kind and its spelling.
-- A comment is kept from its `#` on, without the ASCII white space at its end.
pub data Kept : Type 0 where
  KeptToken : Kind → List ℕ → Kept
  KeptBlock : List ℕ → Kept
  KeptComment : List ℕ → Kept

abbrev pub kept_token : Kind → List ℕ → Kept
kept_token Punctuator bytes = KeptToken Punctuator bytes
kept_token Name bytes = KeptToken Name bytes
kept_token IntValue bytes = KeptToken IntValue bytes
kept_token FloatValue bytes = KeptToken FloatValue bytes
kept_token StringValue bytes = KeptToken StringValue bytes
kept_token BlockString bytes = KeptBlock (block_string_of bytes)

-- of ignored text only comments are kept
abbrev pub kept_element : ElementKind → List ℕ → List Kept
kept_element (element.Token k) bytes = kept_token k bytes ∷ []
kept_element element.Comment bytes = KeptComment (trimmed bytes) ∷ []
kept_element element.Ignored bytes = []

-- the tokens and the comments among lexical elements
abbrev pub kept : List Piece → List Kept
kept [] = []
kept (p ∷ ps) = kept_element (element_kind p.bytes p.meaning) p.bytes ++ kept ps

-- the whole input is elements of the lexical grammar `E`, and these are its tokens and its comments
abbrev pub HasKept : LexicalGrammar → List ℕ → List Kept → Type 0
HasKept E text ks = (ps : List Piece) × IsDividedInto E text ps [] × (kept ps ≡ ks)

-- If the whole source is elements of the lexical grammar `E`, so is the text, with the same tokens and the same
-- comments, in the same order.
abbrev pub KeepsIn : LexicalGrammar → (source text : List ℕ) → Type 0
KeepsIn E source text = (ks : List Kept) → HasKept E source ks → HasKept E text ks

-- The text has the tokens and the comments of the source, in the same order, and no others, in each lexical grammar.
pub record KeepsAll (source text : List ℕ) : Type 0 where
  -- The source is elements of September 2025 and of `graphql_core`, and so is the text.
  pub either : (ks : List Kept) × HasKept IsEither source ks × HasKept IsEither text ks
  -- If the source is elements of September 2025 alone, so is the text.
  pub standard : KeepsIn IsElement source text
  -- If the source is elements of `graphql_core` alone, so is the text.
  pub core : KeepsIn IsLexicalElement source text
