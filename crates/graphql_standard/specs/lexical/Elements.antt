-- The lexical elements of GraphQL, September 2025 (section 2.1), and those that `graphql_core` reads too.
use Rattle.std.specs.Prelude.{◌≡◌, ◌≢◌, ◌⊎◌, ℕ, true, false, Bool, List, [], ◌∷◌, ◌++◌, slice_index}
use Rattle.graphql_core.specs.declared.tokenizer.token.Kind.{Kind}
use Rattle.graphql_core.specs.declared.tokenizer.token.Kind.TheVariants.{Punctuator, Name, IntValue, FloatValue}
use Rattle.graphql_core.specs.declared.tokenizer.token.Kind.TheVariants.{StringValue, BlockString}
use Rattle.graphql_core.specs.declared.tokenizer.piece.Nesting.TheVariants.{Unchanged}
use Rattle.graphql_core.specs.declared.tokenizer.element.ElementKind.{ElementKind}
use Rattle.graphql_core.specs.lexical.Lexical.{Meaning, Ignored, TokenOf, IsLexicalElement, Piece}
use Rattle.graphql_core.specs.lexical.Elements.{element_kind}
use Rattle.graphql_standard.specs.lexical.Numbers.{IsNumber, EndsNumber}
use Rattle.graphql_standard.specs.lexical.Strings.{IsStringBody}

-- `E bytes m rest`: by the lexical grammar `E`, the bytes are an element of this meaning, if `rest` follows
abbrev pub LexicalGrammar : Type 1
LexicalGrammar = List ℕ → Meaning → List ℕ → Type 0

-- no element begins this input
abbrev pub BeginsNoneOf : LexicalGrammar → List ℕ → Type 0
BeginsNoneOf E text = (bytes : List ℕ) (m : Meaning) (rest : List ℕ) → E bytes m rest → text ≢ bytes ++ rest

-- the input is an element of this kind, and then the rest
abbrev pub BeginsWithOneOf : LexicalGrammar → (text : List ℕ) → ElementKind → (bytes rest : List ℕ) → Type 0
BeginsWithOneOf E text kind bytes rest =
    (m : Meaning) × (text ≡ bytes ++ rest) × E bytes m rest × (element_kind bytes m ≡ kind)

-- the input is these elements, and then `stop`, which no element begins
abbrev pub IsDividedInto : LexicalGrammar → List ℕ → List Piece → List ℕ → Type 0
IsDividedInto E text [] stop = (text ≡ stop) × BeginsNoneOf E stop
IsDividedInto E text (p ∷ ps) stop =
    (rest : List ℕ) × (text ≡ p.bytes ++ rest) × E p.bytes p.meaning rest × IsDividedInto E rest ps stop

-- Ignored text, names, punctuators and block strings are the same in both grammars.
abbrev pub is_shared_kind : Kind → Bool
is_shared_kind Punctuator = true
is_shared_kind Name = true
is_shared_kind IntValue = false
is_shared_kind FloatValue = false
is_shared_kind StringValue = false
is_shared_kind BlockString = true

abbrev pub is_shared : Meaning → Bool
is_shared (Ignored m) = true
is_shared (TokenOf k n) = is_shared_kind k

-- the lexical grammar of September 2025
pub data IsElement : List ℕ → Meaning → List ℕ → Type 0 where
  shared_element : {bytes : List ℕ} {m : Meaning} {rest : List ℕ} → is_shared m ≡ true → IsLexicalElement bytes m rest
      → IsElement bytes m rest
  number_element : {bytes : List ℕ} {k : Kind} {rest : List ℕ} → IsNumber k bytes → EndsNumber rest
      → IsElement bytes (TokenOf k Unchanged) rest
  -- an empty string only if no other quote follows
  string_element : {body rest : List ℕ} → IsStringBody body → (body ≡ [] → slice_index rest 0 ≢ 34)
      → IsElement (34 ∷ (body ++ 34 ∷ [])) (TokenOf StringValue Unchanged) rest

-- an element of September 2025, or of the grammar of `graphql_core`
abbrev pub IsEither : List ℕ → Meaning → List ℕ → Type 0
IsEither bytes m rest = IsElement bytes m rest ⊎ IsLexicalElement bytes m rest
