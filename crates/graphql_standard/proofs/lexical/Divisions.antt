-- Each input has a division into lexical elements of either grammar.
use Rattle.std.proofs.Common.{◌≡◌, ℕ, suc, zero, ◌<◌, ◌≤◌, List, [], ◌∷◌, ◌++◌, length, Option, Some, None, le_refl, refl, ap, subst, inl, inr, arith, length-append}
use Rattle.graphql_core.specs.declared.tokenizer.token.Kind.{Kind}
use Rattle.graphql_core.specs.declared.tokenizer.piece.Nesting.TheVariants.{Unchanged}
use Rattle.graphql_core.specs.{front}
use Rattle.graphql_core.specs.steps.Front.{FrontElement, AtEnd, Skips, Takes, Stops}
use Rattle.graphql_core.specs.steps.Ahead.{ignored_front, taken}
use Rattle.graphql_core.specs.lexical.Lexical.{Meaning, Ignored, TokenOf, IsLexicalElement, BeginsNone, Piece}
use Rattle.graphql_core.proofs.lexical.FrontIsPiece.{ahead_of, element_at_front}
use Rattle.graphql_core.proofs.lexical.FrontFits.{PieceFits, front_within}
use Rattle.graphql_core.proofs.lexical.OneTokenization.{Sees, front_sees}
use Rattle.graphql_core.proofs.lexical.Elements.{begins_none}
use Rattle.graphql_standard.specs.lexical.Elements.{IsEither, number_element, BeginsNoneOf, IsDividedInto}
use Rattle.graphql_standard.specs.steps.Numbers.{number_front}
use Rattle.graphql_standard.proofs.lexical.Numbers.{number_is}
use Rattle.graphql_standard.proofs.lexical.CoreNumbers.{number_ends, some_number}
use Rattle.graphql_standard.proofs.lexical.Elements.{none_begins, no_number_begins}

-- the element at the start of an input, or that there is none
data First (text : List ℕ) : Type 0 where
  found : (bytes rest : List ℕ) (m : Meaning) → text ≡ bytes ++ rest → IsEither bytes m rest → 0 < length bytes → First text
  nothing : BeginsNoneOf IsEither text → First text

fits_some : (text : List ℕ) (m : Meaning) (n : ℕ) → PieceFits text (ahead_of m n) → 0 < n
fits_some text (Ignored m) n (part, _) = part.0
fits_some text (TokenOf k t) n part = part.0

pub some_bytes : {bytes : List ℕ} {m : Meaning} {rest : List ℕ} → IsLexicalElement bytes m rest → 0 < length bytes
some_bytes {bytes} {m} {rest} st = fits_some (bytes ++ rest) m (length bytes) (subst (PieceFits (bytes ++ rest)) (element_at_front st) (front_within (bytes ++ rest)))

by_number : (text : List ℕ) (o : Option (ℕ × Kind)) → number_front text ≡ o → BeginsNone text → First text
by_number text None e none = nothing (none_begins text none (no_number_begins text e))
by_number text (Some (n, k)) e none =
    let f = number_is text n k e in
    found f.number f.rest (TokenOf k Unchanged) f.whole (inl (number_element f.is f.ends)) (some_number f.number (number_ends f.is))

by_front : (text : List ℕ) (x : FrontElement) → front text ≡ x → Sees text x → First text
by_front text AtEnd e s = by_number text (number_front text) refl (begins_none text (ap ignored_front e) (ap taken e))
by_front text Stops e s = by_number text (number_front text) refl (begins_none text (ap ignored_front e) (ap taken e))
by_front text (Skips n m) e (bytes, k, rest, is, st) = found bytes rest k is (inr st) (some_bytes st)
by_front text (Takes n j t) e (bytes, k, rest, is, st) = found bytes rest k is (inr st) (some_bytes st)

first : (text : List ℕ) → First text
first text = by_front text (front text) refl (front_sees text)

Division : List ℕ → Type 0
Division text = (ps : List Piece) × (stop : List ℕ) × IsDividedInto IsEither text ps stop

divide : (n : ℕ) (text : List ℕ) → length text ≤ n → First text → Division text
unfolding Division
divide n text h (nothing none) = ([], text, (refl, none))
divide zero text h (found bytes rest m is el some) = absurd (omega (arith, some, ap length is, length-append bytes rest))
divide (suc n) text h (found bytes rest m is el some) =
    let (ps, stop, more) = divide n rest (omega (arith, some, ap length is, length-append bytes rest)) (first rest) in
    (record { bytes = bytes; meaning = m } ∷ ps, stop, (rest, is, el, more))

pub some_division : (text : List ℕ) → (ps : List Piece) × (stop : List ℕ) × IsDividedInto IsEither text ps stop
unfolding Division
some_division text = divide (length text) text (le_refl (length text)) (first text)
