-- Float literals are the floats that end in a digit.
use Rattle.std.proofs.Common.{◌≡◌, ℕ, ◌+◌, ◌-◌, ◌<◌, true, false, ◌||◌, ◌==◌, List, [], ◌∷◌, ◌++◌, length, get_or, refl, sym, ap, ◌∙◌, subst, inl, inr, arith}
use Rattle.std.proofs.lemmas.Bool.{cases_Bool, and_parts, and_from, false≢true}
use Rattle.std.proofs.lemmas.Bool.Decides.{nat_tests}
use Rattle.std.proofs.lemmas.List.{get_or-append-add, length-append}
use Rattle.std.proofs.lemmas.List.Folds.{list_all_at, list_any_at}
use Rattle.graphql_core.specs.{is_in, is_integer, is_fraction, is_exponent, IsFloat, with_fraction, with_exponent}
use Rattle.graphql_core.specs.{with_both, is_whole_exponent, EndsFloat, fraction, exponent, both, IsFloatLiteral}
use Rattle.std.specs.List.{list_all, list_any}
use Rattle.std.specs.Char.{is_ascii_digit}

-- ---- the last byte

abbrev last_byte : List ℕ → ℕ
last_byte xs = get_or xs (length xs - 1) 0

last_of_joined : (xs ys : List ℕ) → 0 < length ys → last_byte (xs ++ ys) ≡ last_byte ys
last_of_joined xs ys some =
    let index : length (xs ++ ys) - 1 ≡ length xs + (length ys - 1) = omega (arith, length-append xs ys) in
    ap (λ n. get_or (xs ++ ys) n 0) index ∙ get_or-append-add xs ys (length ys - 1) 0

last_digit : (xs : List ℕ) → list_all is_ascii_digit xs ≡ true → 0 < length xs → is_ascii_digit (last_byte xs) ≡ true
last_digit xs all some =
    elim (cases_Bool (is_ascii_digit (last_byte xs))) [
      | inl digit ↦ digit
      | inr other ↦ absurd (false≢true (sym (list_all_at is_ascii_digit xs (length xs - 1) 0 (omega arith) other) ∙ all))
    ]

fraction_last : (f : List ℕ) → is_fraction f ≡ true → is_ascii_digit (last_byte f) ≡ true
fraction_last [] h = absurd (false≢true h)
fraction_last (b ∷ []) h = absurd (false≢true h)
fraction_last (b ∷ c ∷ cs) h =
    let digits = (and_parts (b == 46) (list_all is_ascii_digit (c ∷ cs)) h).1 in
    ap is_ascii_digit (last_of_joined (b ∷ []) (c ∷ cs) (omega arith)) ∙ last_digit (c ∷ cs) digits (omega arith)

-- ---- exponents

digit_after_indicator : (b c : ℕ) → (b == 101 || b == 69) ≡ true → (is_ascii_digit b || (is_ascii_digit c || false)) ≡ true → is_ascii_digit c ≡ true
digit_after_indicator b c mark some = grind (arith, nat_tests)

exponent_last : (e : List ℕ) → is_whole_exponent e ≡ true → is_ascii_digit (last_byte e) ≡ true
exponent_last [] h = absurd (false≢true h)
exponent_last (b ∷ []) h = absurd (false≢true h)
exponent_last (b ∷ c ∷ []) h =
    let (form, some) = and_parts (is_exponent (b ∷ c ∷ [])) (list_any is_ascii_digit (b ∷ c ∷ [])) h in
    digit_after_indicator b c (and_parts (b == 101 || b == 69) _ form).0 some
exponent_last (b ∷ c ∷ d ∷ ds) h =
    let form = (and_parts (is_exponent (b ∷ c ∷ d ∷ ds)) (list_any is_ascii_digit (b ∷ c ∷ d ∷ ds)) h).0 in
    let power = (and_parts (b == 101 || b == 69) _ form).1 in
    let digits = (and_parts (c == 43 || c == 45 || is_in 49 56 c) (list_all is_ascii_digit (d ∷ ds)) power).1 in
    ap is_ascii_digit (last_of_joined (b ∷ c ∷ []) (d ∷ ds) (omega arith)) ∙ last_digit (d ∷ ds) digits (omega arith)

exponent_some : (e : List ℕ) → is_exponent e ≡ true → 0 < length e
exponent_some [] h = absurd (false≢true h)
exponent_some (b ∷ bs) h = omega arith

-- the exponent at the end of a float that ends in a digit
exponent_whole : (front e : List ℕ) → is_exponent e ≡ true → is_ascii_digit (last_byte (front ++ e)) ≡ true → is_whole_exponent e ≡ true
exponent_whole front e h digit =
    let some = exponent_some e h in
    let last = ap is_ascii_digit (sym (last_of_joined front e some)) ∙ digit in
    and_from (is_exponent e) (list_any is_ascii_digit e) h (list_any_at is_ascii_digit e (length e - 1) 0 (omega arith) last)

-- ---- floats

pub float_is_literal : {text : List ℕ} → IsFloat text → is_ascii_digit (last_byte text) ≡ true → IsFloatLiteral text
float_is_literal (with_fraction integer f h p) digit = (integer, f, refl, h, fraction f p)
float_is_literal (with_exponent integer e h p) digit = (integer, e, refl, h, exponent e (exponent_whole integer e p digit))
float_is_literal (with_both integer f e h p q) digit =
    let last = ap is_ascii_digit (sym (last_of_joined integer (f ++ e) (omega (arith, length-append f e, exponent_some e q)))) ∙ digit in
    (integer, f ++ e, refl, h, both f e p (exponent_whole f e q last))

pub exponent_form : (e : List ℕ) → is_whole_exponent e ≡ true → is_exponent e ≡ true
exponent_form e h = (and_parts (is_exponent e) (list_any is_ascii_digit e) h).0

ending_float : (integer ending : List ℕ) → is_integer integer ≡ true → EndsFloat ending → IsFloat (integer ++ ending)
ending_float integer _ h (fraction f p) = with_fraction integer f h p
ending_float integer _ h (exponent x p) = with_exponent integer x h (exponent_form x p)
ending_float integer _ h (both f x p q) = with_both integer f x h p (exponent_form x q)

pub literal_is_float : (text : List ℕ) → IsFloatLiteral text → IsFloat text
literal_is_float text (integer, ending, e, h, z) = subst IsFloat (sym e) (ending_float integer ending h z)

fraction_some : (f : List ℕ) → is_fraction f ≡ true → 0 < length f
fraction_some [] h = absurd (false≢true h)
fraction_some (b ∷ bs) h = omega arith

ending_last : (front ending : List ℕ) → EndsFloat ending → is_ascii_digit (last_byte (front ++ ending)) ≡ true
ending_last front _ (fraction f p) = ap is_ascii_digit (last_of_joined front f (fraction_some f p)) ∙ fraction_last f p
ending_last front _ (exponent x p) = ap is_ascii_digit (last_of_joined front x (exponent_some x (exponent_form x p))) ∙ exponent_last x p
ending_last front _ (both f x p q) =
    let some = exponent_some x (exponent_form x q) in
    ap is_ascii_digit (last_of_joined front (f ++ x) (omega (arith, length-append f x)) ∙ last_of_joined f x some) ∙ exponent_last x q

pub literal_ends_in_digit : (text : List ℕ) → IsFloatLiteral text → is_ascii_digit (last_byte text) ≡ true
literal_ends_in_digit text (integer, ending, e, h, z) = ap (λ t. is_ascii_digit (last_byte t)) e ∙ ending_last integer ending z
