-- Elements that are tokens, and how a recognizer reads them.
use Rattle.std.proofs.Common.{◌≡◌, ◌∙◌, ap, subst, refl, arith, ℕ, Bool, true, false, if◌then◌else◌, List, [], ◌∷◌, ◌++◌, Result, Ok}
use Rattle.std.proofs.lemmas.Bool.Decides.{nat_tests}
use Rattle.std.specs.declared.alloc.AllocError.{AllocError}
use Rattle.graphql_core.specs.{Token, Meaning, Ignored, TokenOf, IsLexicalElement, is_listed}
use Rattle.graphql_core.specs.lexical.Elements.{element_kind}
use Rattle.graphql_core.specs.lexical.Lexical.{is_punctuator_byte, punctuator_token, spread_token}
use Rattle.graphql_core.specs.declared.tokenizer.token.Kind.{Kind}
use Rattle.graphql_core.specs.declared.tokenizer.token.Kind.TheVariants.{Punctuator, Name, IntValue, FloatValue, StringValue, BlockString}
use Rattle.graphql_core.specs.declared.tokenizer.piece.Nesting.{Nesting}
use Rattle.graphql_core.specs.declared.tokenizer.piece.Nesting.TheVariants.{Unchanged}
use Rattle.graphql_core.specs.declared.tokenizer.element.ElementKind.TheVariants as element
use Rattle.graphql_standard.specs.lexical.Numbers.{IsNumber, int_value, float_value}
use Rattle.graphql_standard.specs.lexical.Elements.{IsElement}
use Rattle.graphql_standard.specs.Terminals.{punctuators, IsSpellingOf}
use Rattle.graphql_standard.specs.Recognizing.{BeginsDocument, Advances, HasRead}
use Rattle.graphql_standard.specs.declared.recognizer.Recognizer.{Recognizer}
use Rattle.graphql_standard.proofs.lexical.Elements.{InCore, in_core, a_number, element_in_core}

-- ---- elements

-- the spelling of a punctuator
punctuator_listed : (b : ℕ) → is_punctuator_byte b ≡ true → is_listed (b ∷ []) punctuators ≡ true
punctuator_listed b h = grind (arith, nat_tests)

listed : {bytes rest : List ℕ} {n : Nesting} → IsLexicalElement bytes (TokenOf Punctuator n) rest → is_listed bytes punctuators ≡ true
listed (punctuator_token {b} is) = punctuator_listed b is
listed spread_token = refl

no_number : {k : Kind} {bytes : List ℕ} {n : Nesting} → IsNumber k bytes → TokenOf Punctuator n ≡ TokenOf k Unchanged → ⊥
no_number (int_value h) e = cc
no_number (float_value h) e = cc

pub spelled : {bytes rest : List ℕ} {n : Nesting} (k : Kind) → IsElement bytes (TokenOf k n) rest → IsSpellingOf k bytes
spelled {bytes} {rest} {n} Punctuator el = by (element_in_core el)
  where
    by : InCore bytes (TokenOf Punctuator n) rest → is_listed bytes punctuators ≡ true
    by (in_core st) = listed st
    by (a_number k is ends e) = absurd (no_number is e)
spelled Name el = tt
spelled IntValue el = tt
spelled FloatValue el = tt
spelled StringValue el = tt
spelled BlockString el = tt

no_token : (b : Bool) (k : Kind) → (if b then element.Comment else element.Ignored) ≡ element.Token k → ⊥
no_token true k e = cc
no_token false k e = cc

pub token_meaning : (bytes : List ℕ) (m : Meaning) (k : Kind) → element_kind bytes m ≡ element.Token k → (n : Nesting) × (m ≡ TokenOf k n)
token_meaning bytes (Ignored x) k e = absurd (no_token _ k e)
token_meaning bytes (TokenOf j n) k e = let same : j ≡ k = cc in (n, ap (λ (i : Kind). TokenOf i n) same)

pub element_spelled : {bytes after : List ℕ} (m : Meaning) (k : Kind) → element_kind bytes m ≡ element.Token k → IsElement bytes m after → IsSpellingOf k bytes
element_spelled {bytes} {after} m k kind el =
    let (n, is) = token_meaning bytes m k kind in spelled k (subst (λ (x : Meaning). IsElement bytes x after) is el)

-- ---- the recognizer

pub read_true : (ts : List Token) (t : Token) (r : Result Bool AllocError) (b : Bool) (k : Recognizer) → r ≡ Ok b → b ≡ true → Advances r ts t k
    → HasRead (ts ++ t ∷ []) k × BeginsDocument (ts ++ t ∷ [])
read_true ts t r b k e is h = subst (λ (s : Result Bool AllocError). Advances s ts t k) (e ∙ ap Ok is) h

pub read_false : (ts : List Token) (t : Token) (r : Result Bool AllocError) (b : Bool) (k : Recognizer) → r ≡ Ok b → b ≡ false → Advances r ts t k
    → HasRead ts k × (BeginsDocument (ts ++ t ∷ []) → ⊥)
read_false ts t r b k e is h = subst (λ (s : Result Bool AllocError). Advances s ts t k) (e ∙ ap Ok is) h
