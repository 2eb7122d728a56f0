-- Numbers in the arguments.
use Rattle.std.proofs.Common.{◌≡◌, ℕ, Bool, true, false, List, [], ◌∷◌, Result, Err, None, refl}
use Rattle.std.specs.Str.{all_ascii_digits}
use Rattle.std.specs.Str.Parse.{ParsesUnsigned, digits_value}
use Rattle.std.proofs.lemmas.Str.Parse.{IsNumeralModel, numerals_by_value, tells_all_ascii_digits, parse_digits}
use Rattle.std.proofs.lemmas.Result.{OkIff-at_err}
use Rattle.std.proofs.lemmas.Bool.{and_from, and_parts, ltb-true}
use Rattle.std.specs.List.{list_all}
use Rattle.std.specs.Char.{is_ascii_digit}
use Rattle.gql.specs.{is_number, number_of}

own : IsNumeralModel (λ ds. all_ascii_digits ds ≡ true) (digits_value 10)
own = numerals_by_value _ tells_all_ascii_digits

digits : (w : List ℕ) → list_all is_ascii_digit w ≡ true → all_ascii_digits w ≡ true
digits [] h = refl
digits (c ∷ cs) h = let parts = and_parts _ _ h in and_from _ _ parts.0 (digits cs parts.1)

pub number_rejected : {E : Type 0} (w : List ℕ) (r : Result ℕ E) (e : E) → ParsesUnsigned 32 10 w r → r ≡ Err e
    → list_all is_ascii_digit w ≡ true → number_of w ≡ None
number_rejected w r e h is d = rejected (is_number w) refl
  where
    rejected : (b : Bool) → is_number w ≡ b → number_of w ≡ None
    rejected false k = rw k refl
    rejected true k =
        let parts = and_parts _ _ (and_parts _ _ (and_parts _ _ k).1).1 in
        absurd (OkIff-at_err r _ _ e (parse_digits own 32 w r h (digits w d)) is (ltb-true _ _ parts.0, ltb-true _ _ parts.1))
