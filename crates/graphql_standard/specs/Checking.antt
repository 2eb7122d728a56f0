-- What checking a source promises: documents within a limit of brackets, and first errors.
use Rattle.std.specs.Prelude.{◌≡◌, ◌≤◌, ◌<◌, ◌+◌, ◌↔◌, ◌&&◌, ◌==◌, ℕ, Bool, true, List, [], ◌∷◌, ◌++◌, length, codes}
use Rattle.std.specs.Prelude.{slice_index, Option, Some, None, Result, Ok, Err, IfOk, IfErr, IsErrOf, IsTrue}
use Rattle.std.specs.List.{count_by}
use Rattle.std.specs.Str.{chars}
use Rattle.std.specs.Char.{len_utf8}
use Rattle.graphql_core.specs.grammar.Trees.{Derives}
use Rattle.graphql_core.specs.{ParseTree, Sym, Token, Piece, Meaning, Ignored, TokenOf, sample, is_listed, kind_number, max_length}
use Rattle.graphql_core.specs.lexical.Elements.{element_kind}
use Rattle.graphql_core.specs.declared.tokenizer.piece.Move.TheVariants.{Over}
use Rattle.graphql_core.specs.declared.tokenizer.token.Kind.{Kind}
use Rattle.graphql_core.specs.declared.tokenizer.token.Kind.TheVariants.{Punctuator}
use Rattle.graphql_core.specs.declared.tokenizer.element.ElementKind.TheVariants as element
use Rattle.graphql_standard.specs.lexical.Elements.{IsElement, IsDividedInto, BeginsNoneOf, BeginsWithOneOf}
use Rattle.graphql_standard.specs.Grammar.{standard}
use Rattle.graphql_standard.specs.Symbols as symbol
use Rattle.graphql_standard.specs.Terminals.{IsTokenOf}
use Rattle.graphql_standard.specs.Places.{IsPlaceBefore}
use Rattle.graphql_standard.specs.declared.place.Place.{Place}
use Rattle.graphql_standard.specs.Recognizing.{IsDocument, BeginsDocument, HasRead, contains, contains_end}
use Rattle.graphql_standard.specs.declared.terminal.Terminal.{Terminal}
use Rattle.graphql_standard.specs.declared.expected.ExpectedSet.{ExpectedSet}
use Rattle.graphql_standard.specs.declared.tokenizer.element.Element.{Element}
use Rattle.graphql_standard.specs.declared.checker.Checker.{Checker}
use Rattle.graphql_standard.specs.declared.error.Found.{Found}
use Rattle.graphql_standard.specs.declared.error.Found.TheVariants as found
use Rattle.graphql_standard.specs.declared.error.SyntaxError.{SyntaxError}
use Rattle.graphql_standard.specs.declared.error.CheckError.{CheckError}
use Rattle.graphql_standard.specs.declared.error.CheckError.TheVariants as error

-- ---- the tokens of a source

abbrev pub token_and : Meaning → List ℕ → List Token → List Token
token_and (Ignored m) bytes ts = ts
token_and (TokenOf k n) bytes ts = sample k bytes ∷ ts

-- the tokens among lexical elements, without their places
abbrev pub tokens_of : List Piece → List Token
tokens_of [] = []
tokens_of (p ∷ ps) = token_and p.meaning p.bytes (tokens_of ps)

-- the whole source is lexical elements of September 2025, with these tokens
abbrev pub HasTokens : List ℕ → List Token → Type 0
HasTokens source ts = (ps : List Piece) × IsDividedInto IsElement source ps [] × (ts ≡ tokens_of ps)

abbrev pub IsStandardDocument : List ℕ → Type 0
IsStandardDocument source = (ts : List Token) × HasTokens source ts × IsDocument ts

-- ---- the depth of brackets

abbrev pub is_bracket_of : List (List ℕ) → Token → Bool
is_bracket_of brackets t = (t.kind == kind_number Punctuator) && is_listed t.spelling brackets

abbrev pub opening_brackets : List (List ℕ)
opening_brackets = codes "(" ∷ codes "[" ∷ codes "{" ∷ []

abbrev pub closing_brackets : List (List ℕ)
closing_brackets = codes ")" ∷ codes "]" ∷ codes "}" ∷ []

abbrev pub is_opening : Token → Bool
is_opening t = is_bracket_of opening_brackets t

abbrev pub is_closing : Token → Bool
is_closing t = is_bracket_of closing_brackets t

abbrev pub openers : List Token → ℕ
openers ts = count_by is_opening ts

abbrev pub closers : List Token → ℕ
closers ts = count_by is_closing ts

-- nowhere are more than `limit` brackets open
abbrev pub IsWithin : ℕ → List Token → Type 0
IsWithin limit ts = (front back : List Token) → ts ≡ front ++ back → openers front ≤ closers front + limit

-- ---- the first error

-- the source is these lexical elements, and then the rest
abbrev pub BeginsWithAll : List ℕ → List Piece → (rest : List ℕ) → Type 0
BeginsWithAll source [] rest = source ≡ rest
BeginsWithAll source (p ∷ ps) rest =
    (after : List ℕ) × (source ≡ p.bytes ++ after) × IsElement p.bytes p.meaning after × BeginsWithAll after ps rest

-- After these tokens the rest of a source is wrong. This is what it begins with, and its length in bytes: a token with
-- which no document continues; the end of the input, where the tokens are no document; or no lexical element.
abbrev pub IsWrongAfter : List Token → (rest : List ℕ) → Found → (len : ℕ) → Type 0
IsWrongAfter ts rest (found.Token k) n =
    (kind : Kind) × (bytes : List ℕ) × (after : List ℕ) × BeginsWithOneOf IsElement rest (element.Token kind) bytes after
    × IsTokenOf k (sample kind bytes) × (BeginsDocument (ts ++ sample kind bytes ∷ []) → ⊥) × (n ≡ length bytes)
IsWrongAfter ts rest found.EndOfInput n = (rest ≡ []) × (IsDocument ts → ⊥) × (n ≡ 0)
IsWrongAfter ts rest found.LexicalError n =
    (rest ≡ [] → ⊥) × BeginsNoneOf IsElement rest × (n ≡ len_utf8 (slice_index (chars rest) 0))

-- the set has each terminal whose tokens some document has after these tokens, and no other; and the end of the input
-- exactly if the tokens are a document
pub record IsExpectedAfter (ts : List Token) (s : ExpectedSet) : Type 0 where
  pub terminals : (k : Terminal) (t : Token) → IsTokenOf k t → IsTrue (contains s k) ↔ BeginsDocument (ts ++ t ∷ [])
  pub end : IsTrue (contains_end s) ↔ IsDocument ts

-- Lexical elements of a part of a source, from its beginning to a place in the source. Some document begins with their
-- tokens, and at most `limit` brackets are open.
pub record IsRightTo (limit : ℕ) (source part : List ℕ) (p : Place) (ps : List Piece) (rest : List ℕ) : Type 0 where
  pub parts : BeginsWithAll part ps rest
  pub place_is : IsPlaceBefore source rest p
  pub begins : BeginsDocument (tokens_of ps)
  pub within : IsWithin limit (tokens_of ps)

-- the first error of a part of a source
abbrev pub IsFirstError : (limit : ℕ) (source part : List ℕ) → SyntaxError → Type 0
IsFirstError limit source part e =
    (ps : List Piece) × (rest : List ℕ) × IsRightTo limit source part e.place ps rest
    × IsWrongAfter (tokens_of ps) rest e.found e.len × IsExpectedAfter (tokens_of ps) e.expected

-- At this place is an opening bracket. Some document begins with it and the tokens before, but `limit` brackets are
-- open.
abbrev pub IsTooDeepAt : (limit : ℕ) (source part : List ℕ) → Place → Type 0
IsTooDeepAt limit source part p =
    (ps : List Piece) × (rest : List ℕ) × IsRightTo limit source part p ps rest
    × (kind : Kind) × (bytes : List ℕ) × (after : List ℕ) × BeginsWithOneOf IsElement rest (element.Token kind) bytes after
    × BeginsDocument (tokens_of ps ++ sample kind bytes ∷ []) × (is_opening (sample kind bytes) ≡ true)
    × (openers (tokens_of ps) ≡ closers (tokens_of ps) + limit)

-- the place of an error
abbrev pub place_of : CheckError → Option Place
place_of (error.Syntax e) = Some e.place
place_of (error.TooDeep p) = Some p
place_of error.TooLong = None
place_of error.OutOfMemory = None

-- ---- the result of checking a source

-- the error of a part of a source; its place is in the source
abbrev pub IsErrorOfPart : (limit : ℕ) (source part : List ℕ) → CheckError → Type 0
IsErrorOfPart limit source part (error.Syntax e) = IsFirstError limit source part e
IsErrorOfPart limit source part (error.TooDeep p) = IsTooDeepAt limit source part p
IsErrorOfPart limit source part error.TooLong = max_length < length part
IsErrorOfPart limit source part error.OutOfMemory = Unit {0}

abbrev pub IsCheckError : (limit : ℕ) (source : List ℕ) → CheckError → Type 0
IsCheckError limit source e = IsErrorOfPart limit source source e

pub record ChecksStandard {A : Type 0} (limit : ℕ) (source : List ℕ) (r : Result A CheckError) : Type 0 where
  -- Sound: a source that is accepted is a document of September 2025, in which at most `limit` brackets are open.
  pub sound : IfOk r (λ _. (ts : List Token) × HasTokens source ts × IsDocument ts × IsWithin limit ts)
  -- Complete: such a source of at most `max_length` bytes is accepted, or an allocation failed.
  pub complete : (ts : List Token) → length source ≤ max_length → HasTokens source ts → IsDocument ts
      → IsWithin limit ts → IfErr r (λ e. e ≡ error.OutOfMemory)
  -- Unambiguous: the tokens of the source have at most one parse tree.
  pub unambiguous : (ts : List Token) (x y : ParseTree) → HasTokens source ts → Derives standard (Sym symbol.document) ts x
      → Derives standard (Sym symbol.document) ts y → x ≡ y
  -- An error is out of memory, too long (only if the source is), the first error of the source, or an opening bracket
  -- that is one too many.
  pub first_error : IfErr r (IsCheckError limit source)
  -- A source of more than `max_length` bytes is rejected as too long.
  pub too_long : max_length < length source → IsErrOf r error.TooLong

-- ---- one element after another

-- The checker has read these tokens.
pub record HasCheckedTokens (limit : ℕ) (ts : List Token) (c : Checker) : Type 0 where
  pub limit_is : c.limit ≡ limit
  pub read : HasRead ts c.recognizer
  pub begins : BeginsDocument ts
  pub within : IsWithin limit ts
  pub openers_are : c.brackets.openers ≡ openers ts
  pub closers_are : c.brackets.closers ≡ closers ts

-- The checker has read these elements of the source. What follows for documents is in the clauses of the calls.
pub record HasChecked (limit : ℕ) (source : List ℕ) (ps : List Piece) (c : Checker) : Type 0 where
  pub source_is : c.source.now ≡ source
  pub short : length source ≤ max_length
  pub parts : BeginsWithAll source ps c.rest.now
  pub tokens : HasCheckedTokens limit (tokens_of ps) c

-- how many bytes of the source are not read
abbrev pub left : Checker → ℕ
left c = length c.rest.now

-- a space as a lexical element
abbrev pub space : Piece
space = record { bytes = 32 ∷ []; meaning = Ignored (Over 1) }

-- The checker has read some elements.
abbrev pub IsChecking : Checker → Type 0
IsChecking c = (limit : ℕ) × (source : List ℕ) × (ps : List Piece) × HasChecked limit source ps c

-- After these elements, the next one is read; or the source ends, and is a document; or the source has this error.
abbrev pub ChecksNext : (limit : ℕ) (source : List ℕ) → List Piece → Result (Option Element) CheckError → Checker → Type 0
ChecksNext limit source ps (Ok (Some e)) c =
    (m : Meaning) × (element_kind e.text.now m ≡ e.kind) × (c.rest.now ≡ e.rest.now)
    × HasChecked limit source (ps ++ record { bytes = e.text.now; meaning = m } ∷ []) c
ChecksNext limit source ps (Ok None) c = BeginsWithAll source ps [] × IsDocument (tokens_of ps) × HasChecked limit source ps c
ChecksNext limit source ps (Err e) c = IsCheckError limit source e
