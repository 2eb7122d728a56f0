-- The laws of the three lexical grammars: of `graphql_core`, of September 2025, and of both together.
use Rattle.std.proofs.Common.{◌≡◌, ℕ, true, List, [], ◌∷◌, ◌++◌, refl, ◌∙◌, inl, inr, arith}
use Rattle.graphql_core.specs.declared.tokenizer.token.Kind.{Kind}
use Rattle.graphql_core.specs.declared.tokenizer.token.Kind.TheVariants.{Punctuator, Name, IntValue, FloatValue, StringValue, BlockString}
use Rattle.graphql_core.specs.declared.tokenizer.piece.Nesting.{Nesting}
use Rattle.graphql_core.specs.lexical.Lexical.{Meaning, TokenOf, IsLexicalElement, string_token, Piece, IsTokenizedInto}
use Rattle.graphql_core.specs.steps.Following.{MayFollow}
use Rattle.graphql_core.specs.{Place, kind_number}
use Rattle.graphql_core.specs.sources.Minified.{is_spaced, space_if}
use Rattle.graphql_core.proofs.{token_before, token_follows}
use Rattle.graphql_standard.specs.lexical.Numbers.{IsNumber, int_value, float_value}
use Rattle.graphql_standard.specs.lexical.Elements.{LexicalGrammar, BeginsNoneOf, IsDividedInto, is_shared, IsElement, IsEither}
use Rattle.graphql_standard.specs.lexical.Elements.{shared_element, number_element, string_element}
use Rattle.graphql_standard.proofs.lexical.Elements.{string_body}
use Rattle.graphql_standard.proofs.lexical.Following.{element_before, either_before, none_at_end, one_either_division}

-- A lexical grammar has the shared elements, and others only of either grammar. A token stays one before all input that
-- can follow a token of its kind.
pub record LexicalLaws (E : LexicalGrammar) : Type 0 where
  pub shared : (bytes : List ℕ) (m : Meaning) (rest : List ℕ) → is_shared m ≡ true → IsLexicalElement bytes m rest → E bytes m rest
  pub either : (bytes : List ℕ) (m : Meaning) (rest : List ℕ) → E bytes m rest → IsEither bytes m rest
  pub before : (bytes : List ℕ) (k : Kind) (n : Nesting) (rest more : List ℕ) → E bytes (TokenOf k n) rest → MayFollow k more
      → E bytes (TokenOf k n) more

pub core_laws : LexicalLaws IsLexicalElement
core_laws = record {
  shared = λ bytes m rest h st. st;
  either = λ bytes m rest st. inr st;
  before = λ bytes k n rest more st f. token_before st more f;
}

pub standard_laws : LexicalLaws IsElement
standard_laws = record {
  shared = λ bytes m rest h st. shared_element h st;
  either = λ bytes m rest el. inl el;
  before = λ bytes k n rest more el f. element_before el more f;
}

pub either_laws : LexicalLaws IsEither
either_laws = record {
  shared = λ bytes m rest h st. inr st;
  either = λ bytes m rest el. el;
  before = λ bytes k n rest more el f. either_before el more f;
}

-- ---- elements of either grammar

-- a shared element is one of `graphql_core`
pub shared_in_core : {bytes : List ℕ} {m : Meaning} {rest : List ℕ} → is_shared m ≡ true → IsEither bytes m rest → IsLexicalElement bytes m rest
shared_in_core h (inl (shared_element is st)) = st
shared_in_core h (inl (number_element (int_value is) ends)) = absurd cc
shared_in_core h (inl (number_element (float_value is) ends)) = absurd cc
shared_in_core h (inl (string_element is some)) = absurd cc
shared_in_core h (inr st) = st

-- the start of a number after a token
number_follows : (k : Kind) {j : Kind} {number : List ℕ} → IsNumber j number → (p : Place) (more : List ℕ)
    → MayFollow k (space_if (is_spaced (kind_number k) (record { kind = kind_number j; spelling = number; place = p })) ++ (number ++ more))
number_follows Punctuator n p more = tt
number_follows Name (int_value h) p more = refl
number_follows Name (float_value h) p more = refl
number_follows IntValue (int_value h) p more = refl
number_follows IntValue (float_value h) p more = refl
number_follows FloatValue (int_value h) p more = refl
number_follows FloatValue (float_value h) p more = refl
number_follows StringValue (int_value h) p more = λ e. omega arith
number_follows StringValue (float_value h) p more = λ e. omega arith
number_follows BlockString n p more = tt

-- a token can follow a token, with a space if `is_spaced` names one
pub either_follows : (k : Kind) {j : Kind} {n : Nesting} {s rest : List ℕ} → IsEither s (TokenOf j n) rest → (p : Place) (more : List ℕ)
    → MayFollow k (space_if (is_spaced (kind_number k) (record { kind = kind_number j; spelling = s; place = p })) ++ (s ++ more))
either_follows k (inr st) p more = token_follows k st p more
either_follows k (inl (shared_element h st)) p more = token_follows k st p more
either_follows k (inl (number_element n ends)) p more = number_follows k n p more
either_follows k (inl (string_element {body} {rest} h some)) p more = token_follows k {rest = rest} (string_token body (string_body body h) some) p more

-- ---- divisions

module _ {E : LexicalGrammar} (laws : LexicalLaws E) where
  -- no element begins at the end of the input
  pub none_at_the_end : BeginsNoneOf E []
  none_at_the_end bytes m rest el e = none_at_end bytes m rest (laws.either bytes m rest el) e

  -- a division of a whole input is one into elements of either grammar
  pub division_of_either : (text : List ℕ) (ps : List Piece) (s : List ℕ) → IsDividedInto E text ps s → s ≡ [] → IsDividedInto IsEither text ps []
  division_of_either text [] s (e, none) end = (e ∙ end, none_at_end)
  division_of_either text (p ∷ ps) s (rest, e, el, more) end =
      (rest, e, laws.either p.bytes p.meaning rest el, division_of_either rest ps s more end)

  -- so it is the only division of the input into elements of either grammar
  pub same_division : (text : List ℕ) (ps qs : List Piece) → IsDividedInto E text ps [] → IsDividedInto IsEither text qs [] → ps ≡ qs
  same_division text ps qs own other = (one_either_division text ps qs [] [] (division_of_either text ps [] own refl) other).0

pub core_division : (text : List ℕ) (ps : List Piece) (s : List ℕ) → IsTokenizedInto text ps s → IsDividedInto IsLexicalElement text ps s
core_division text [] s tokenized = tokenized
core_division text (p ∷ ps) s (rest, e, st, more) = (rest, e, st, core_division rest ps s more)

pub division_in_core : (text : List ℕ) (ps : List Piece) (s : List ℕ) → IsDividedInto IsLexicalElement text ps s → IsTokenizedInto text ps s
division_in_core text [] s division = division
division_in_core text (p ∷ ps) s (rest, e, st, more) = (rest, e, st, division_in_core rest ps s more)
