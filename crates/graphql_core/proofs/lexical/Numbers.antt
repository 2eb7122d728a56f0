-- Runs and numbers.
use Rattle.std.specs.Char.{is_ascii_digit}
use Rattle.std.specs.List.{prefix_len, list_all}
use Rattle.std.specs.Str.{IsCharBoundary}
use Rattle.std.proofs.Common.{◌≡◌, ℕ, suc, ◌<◌, ◌≤◌, Bool, true, false, not, ◌&&◌, ◌||◌, ◌==◌, List, [], ◌∷◌, ◌++◌, length, get_or, take, drop, refl, sym}
use Rattle.std.proofs.Common.{ap, ◌∙◌, subst, inl, inr, arith, eqb-true}
use Rattle.std.proofs.lemmas.Bool.{cases_lt, cases_Bool, and_parts, not-true, not-false}
use Rattle.std.proofs.lemmas.Bool.Decides.{nat_tests}
use Rattle.std.proofs.lemmas.List.{take_at, drop_at, take-append-drop, append-nil}
use Rattle.std.proofs.lemmas.List.Sums.{prefix_len-le-length, prefix_len_stops}
use Rattle.std.proofs.lemmas.Str.{IsCharBoundary-end, IsCharBoundary-before_ascii}
use Rattle.graphql_core.specs.declared.tokenizer.token.Kind.TheVariants.{IntValue, FloatValue}
use Rattle.graphql_core.specs.declared.tokenizer.piece.Nesting.TheVariants.{Unchanged}
use Rattle.graphql_core.specs.steps.Front.{Takes}
use Rattle.graphql_core.specs.{is_in_run, is_delimiter, is_natural, is_integer, is_fraction, is_exponent, is_in, EndsRun, IsFloat, with_fraction, with_exponent}
use Rattle.graphql_core.specs.{with_both, run_at, is_flat, starts_number, digits_len, is_exponent_or_none, is_after_dot, is_after_integer, is_unsigned}
use Rattle.graphql_core.specs.{is_float, number_of, number}
use Rattle.graphql_core.proofs.lexical.Runs.{run, run_all, run_of, all_weaken, all_append}

ends_run_ascii : (b : ℕ) → is_in_run b ≡ false → b < 128
ends_run_ascii b h = grind (arith, nat_tests)

-- a run ends before a delimiter or at the end of the input
pub run_boundary : (bytes : List ℕ) → IsCharBoundary bytes (prefix_len is_in_run bytes)
run_boundary bytes =
    let le = prefix_len-le-length is_in_run bytes in
    elim (cases_lt (prefix_len is_in_run bytes) (length bytes)) [
      | inl lt ↦ IsCharBoundary-before_ascii bytes (prefix_len is_in_run bytes) lt (ends_run_ascii _ (prefix_len_stops is_in_run bytes 0 lt))
      | inr past ↦ let all : length bytes ≡ prefix_len is_in_run bytes = omega arith in subst (IsCharBoundary bytes) all (IsCharBoundary-end bytes)
    ]

-- ---- floats

-- an input that begins with no digit
abbrev NoDigit : List ℕ → Type 0
NoDigit [] = Unit {0}
NoDigit (b ∷ bs) = is_ascii_digit b ≡ false

digits : (xs rest : List ℕ) → list_all is_ascii_digit xs ≡ true → NoDigit rest → digits_len (xs ++ rest) ≡ length xs
digits xs [] all h = ap digits_len (append-nil xs) ∙ run_all is_ascii_digit xs all
digits xs (c ∷ rest) all h = run is_ascii_digit xs (c ∷ rest) all h

in_digit : (low high b : ℕ) → 48 ≤ low → high ≤ 57 → is_in low high b ≡ true → is_ascii_digit b ≡ true
in_digit low high b h k e = grind (arith, nat_tests)

pub natural_digits : (xs : List ℕ) → is_natural xs ≡ true → list_all is_ascii_digit xs ≡ true
natural_digits [] h = refl
natural_digits (b ∷ []) h = rw h refl
natural_digits (b ∷ c ∷ cs) h =
    let (first, more) = and_parts (is_in 49 57 b) (list_all is_ascii_digit (c ∷ cs)) h in
    rw (in_digit 49 57 b (omega arith) (omega arith) first, more) refl

unsigned_parts : (xs rest : List ℕ) → is_natural xs ≡ true → NoDigit rest → is_unsigned (xs ++ rest) ≡ is_after_integer rest
unfolding is_unsigned
unsigned_parts xs rest h stop =
    rw (digits xs rest (natural_digits xs h) stop, take_at xs rest (length xs) refl, drop_at xs rest (length xs) refl, h) refl

-- the first byte of a natural number is a digit
natural_digit : (b : ℕ) (bs : List ℕ) → is_natural (b ∷ bs) ≡ true → is_ascii_digit b ≡ true
natural_digit b [] h = h
natural_digit b (c ∷ cs) h = in_digit 49 57 b (omega arith) (omega arith) (and_parts (is_in 49 57 b) (list_all is_ascii_digit (c ∷ cs)) h).0

no_minus : (b : ℕ) → is_ascii_digit b ≡ true → (b == 45) ≡ false
no_minus b h = grind (arith, nat_tests)

float_parts : (xs rest : List ℕ) → is_integer xs ≡ true → NoDigit rest → is_float (xs ++ rest) ≡ is_after_integer rest
unfolding is_float
float_parts [] rest h stop = absurd cc
float_parts (b ∷ bs) rest h stop =
    elim (cases_Bool (b == 45)) [
      | inl minus ↦ rw minus (unsigned_parts bs rest (rw minus at h) stop)
      | inr plain ↦ rw plain (unsigned_parts (b ∷ bs) rest (rw plain at h) stop)
    ]

punctuator_no_digit : (b : ℕ) → (b == 101 || b == 69) ≡ true → is_ascii_digit b ≡ false
punctuator_no_digit b h = grind (arith, nat_tests)

exponent_no_digit : (xs : List ℕ) → is_exponent xs ≡ true → NoDigit xs
exponent_no_digit [] h = absurd cc
exponent_no_digit (b ∷ []) h = absurd cc
exponent_no_digit (b ∷ c ∷ cs) h =
    punctuator_no_digit b (and_parts (b == 101 || b == 69) ((c == 43 || c == 45 || is_in 49 56 c) && list_all is_ascii_digit cs) h).0

no_dot : (b : ℕ) → (b == 101 || b == 69) ≡ true → (b == 46) ≡ false
no_dot b h = grind (arith, nat_tests)

after_exponent : (xs : List ℕ) → is_exponent xs ≡ true → is_after_integer xs ≡ true
unfolding is_after_integer
after_exponent [] h = absurd cc
after_exponent (b ∷ []) h = absurd cc
after_exponent (b ∷ c ∷ cs) h =
    rw (no_dot b (and_parts (b == 101 || b == 69) ((c == 43 || c == 45 || is_in 49 56 c) && list_all is_ascii_digit cs) h).0) h

not_zero : (n : ℕ) → (suc n == 0) ≡ false
not_zero n = grind (arith, nat_tests)

-- a fraction and what can follow it
after_fraction : (xs rest : List ℕ) → is_fraction xs ≡ true → NoDigit rest → is_exponent_or_none rest ≡ true → is_after_integer (xs ++ rest) ≡ true
unfolding is_after_integer is_after_dot
after_fraction [] rest h stop e = absurd cc
after_fraction (b ∷ []) rest h stop e = absurd cc
after_fraction (b ∷ c ∷ cs) rest h stop e =
    let (dot, all) = and_parts (b == 46) (list_all is_ascii_digit (c ∷ cs)) h in
    rw (dot, digits (c ∷ cs) rest all stop, drop_at (c ∷ cs) rest (length (c ∷ cs)) refl, not_zero (length cs), e) refl

fraction_no_digit : (xs rest : List ℕ) → is_fraction xs ≡ true → NoDigit (xs ++ rest)
fraction_no_digit [] rest h = absurd cc
fraction_no_digit (b ∷ []) rest h = absurd cc
fraction_no_digit (b ∷ c ∷ cs) rest h =
    let dot = (and_parts (b == 46) (list_all is_ascii_digit (c ∷ cs)) h).0 in
    grind (arith, nat_tests)

exponent_or_none : (xs : List ℕ) → is_exponent xs ≡ true → is_exponent_or_none xs ≡ true
exponent_or_none [] h = refl
exponent_or_none (b ∷ bs) h = h

pub float_found : {run : List ℕ} → IsFloat run → is_float run ≡ true
float_found (with_fraction integer fraction i f) =
    let stop : NoDigit fraction = subst NoDigit (append-nil fraction) (fraction_no_digit fraction [] f) in
    float_parts integer fraction i stop ∙ subst (λ xs. is_after_integer xs ≡ true) (append-nil fraction) (after_fraction fraction [] f tt refl)
float_found (with_exponent integer exponent i e) = float_parts integer exponent i (exponent_no_digit exponent e) ∙ after_exponent exponent e
float_found (with_both integer fraction exponent i f e) =
    float_parts integer (fraction ++ exponent) i (fraction_no_digit fraction exponent f)
    ∙ after_fraction fraction exponent f (exponent_no_digit exponent e) (exponent_or_none exponent e)

-- an integer is no float
pub integer_no_float : (xs : List ℕ) → is_integer xs ≡ true → is_float xs ≡ false
unfolding is_after_integer
integer_no_float xs h = ap is_float (sym (append-nil xs)) ∙ float_parts xs [] h tt

-- ---- the converse

-- what can follow the integer of a float
abbrev GoesOn : List ℕ → Type 0
GoesOn rest = (integer : List ℕ) → is_integer integer ≡ true → IsFloat (integer ++ rest)

fraction_then : (b : ℕ) (digits rest : List ℕ) → b ≡ 46 → list_all is_ascii_digit digits ≡ true → (length digits == 0) ≡ false
    → is_exponent_or_none rest ≡ true → GoesOn (b ∷ (digits ++ rest))
fraction_then b [] rest e all some more = absurd cc
fraction_then b (c ∷ cs) [] e all some more =
    rw append-nil (λ integer i. with_fraction integer (b ∷ c ∷ cs) i (rw (e, all) refl))
fraction_then b (c ∷ cs) (d ∷ ds) e all some more =
    λ integer i. with_both integer (b ∷ c ∷ cs) (d ∷ ds) i (rw (e, all) refl) more

goes_on_dot : (b : ℕ) (bs : List ℕ) → b ≡ 46 → is_after_dot bs ≡ true → GoesOn (b ∷ bs)
unfolding is_after_dot
goes_on_dot b bs e h =
    let r = run_of is_ascii_digit bs in
    let (some, more) = and_parts (not (digits_len bs == 0)) (is_exponent_or_none (drop (digits_len bs) bs)) h in
    let after : drop (digits_len bs) bs ≡ r.1 = ap (drop (digits_len bs)) r.2 ∙ drop_at r.0 r.1 (digits_len bs) (sym r.4) in
    let nonzero : (length r.0 == 0) ≡ false = rw (← r.4) (not-true _ some) in
    subst (λ xs. GoesOn (b ∷ xs)) (sym r.2) (fraction_then b r.0 r.1 e r.3 nonzero (rw after at more))

goes_on : (rest : List ℕ) → is_after_integer rest ≡ true → GoesOn rest
unfolding is_after_integer
goes_on [] h = absurd cc
goes_on (b ∷ bs) h =
    elim (cases_Bool (b == 46)) [
      | inl dot ↦ goes_on_dot b bs (eqb-true b 46 dot) (rw dot at h)
      | inr other ↦ λ integer i. with_exponent integer (b ∷ bs) i (rw other at h)
    ]

natural_first : (b : ℕ) (bs : List ℕ) → is_natural (b ∷ bs) ≡ true → is_integer (b ∷ bs) ≡ true
natural_first b bs h = rw (no_minus b (natural_digit b bs h)) h

unsigned_is : (xs : List ℕ) → is_unsigned xs ≡ true → (integer rest : List ℕ) × (xs ≡ integer ++ rest) × (is_natural integer ≡ true)
    × (is_after_integer rest ≡ true)
unfolding is_unsigned
unsigned_is xs h =
    let (i, more) = and_parts (is_natural (take (digits_len xs) xs)) (is_after_integer (drop (digits_len xs) xs)) h in
    (take (digits_len xs) xs, drop (digits_len xs) xs, sym (take-append-drop (digits_len xs) xs), i, more)

pub natural_integer : (xs : List ℕ) → is_natural xs ≡ true → is_integer xs ≡ true
natural_integer [] h = absurd cc
natural_integer (b ∷ bs) h = natural_first b bs h

pub float_is : (xs : List ℕ) → is_float xs ≡ true → IsFloat xs
unfolding is_float
float_is [] h = absurd cc
float_is (b ∷ bs) h =
    elim (cases_Bool (b == 45)) [
      | inl minus ↦
          let (integer, rest, e, i, more) = unsigned_is bs (rw minus at h) in
          subst IsFloat (ap (λ xs. b ∷ xs) (sym e)) (goes_on rest more (b ∷ integer) (rw minus i))
      | inr plain ↦
          let (integer, rest, e, i, more) = unsigned_is (b ∷ bs) (rw plain at h) in
          subst IsFloat (sym e) (goes_on rest more integer (natural_integer integer i))
    ]

-- ---- the bytes of numbers

abbrev is_number_byte : ℕ → Bool
is_number_byte b = is_ascii_digit b || (b == 45 || b == 43 || b == 46 || b == 101 || b == 69)

digit_in : (b : ℕ) → is_ascii_digit b ≡ true → is_number_byte b ≡ true
digit_in b h = rw h refl

number_flat : (b : ℕ) → is_number_byte b ≡ true → is_flat b ≡ true
number_flat b h = grind (arith, nat_tests)

number_in_run : (b : ℕ) → is_number_byte b ≡ true → is_in_run b ≡ true
number_in_run b h = grind (arith, nat_tests)

sign_in : (b : ℕ) → (b == 45) ≡ true → is_number_byte b ≡ true
sign_in b h = grind (arith, nat_tests)

dot_in : (b : ℕ) → (b == 46) ≡ true → is_number_byte b ≡ true
dot_in b h = grind (arith, nat_tests)

indicator_in : (b : ℕ) → (b == 101 || b == 69) ≡ true → is_number_byte b ≡ true
indicator_in b h = grind (arith, nat_tests)

first_in : (b : ℕ) → (b == 43 || b == 45 || is_in 49 56 b) ≡ true → is_number_byte b ≡ true
first_in b h = grind (arith, nat_tests)

minus_then : (b : ℕ) (bs : List ℕ) → (b == 45) ≡ true → list_all is_number_byte bs ≡ true → list_all is_number_byte (b ∷ bs) ≡ true
minus_then b bs e h = rw (sign_in b e, h) refl

natural_bytes : (xs : List ℕ) → is_natural xs ≡ true → list_all is_number_byte xs ≡ true
natural_bytes xs h = all_weaken is_ascii_digit is_number_byte digit_in xs (natural_digits xs h)

integer_bytes : (xs : List ℕ) → is_integer xs ≡ true → list_all is_number_byte xs ≡ true
integer_bytes [] h = refl
integer_bytes (b ∷ bs) h =
    elim (cases_Bool (b == 45)) [
      | inl minus ↦ let bytes = natural_bytes bs (rw minus at h) in minus_then b bs minus bytes
      | inr plain ↦ natural_bytes (b ∷ bs) (rw plain at h)
    ]

fraction_bytes : (xs : List ℕ) → is_fraction xs ≡ true → list_all is_number_byte xs ≡ true
fraction_bytes [] h = refl
fraction_bytes (b ∷ []) h = absurd cc
fraction_bytes (b ∷ c ∷ cs) h =
    let (dot, all) = and_parts (b == 46) (list_all is_ascii_digit (c ∷ cs)) h in
    rw (dot_in b dot, all_weaken is_ascii_digit is_number_byte digit_in (c ∷ cs) all) refl

exponent_bytes : (xs : List ℕ) → is_exponent xs ≡ true → list_all is_number_byte xs ≡ true
exponent_bytes [] h = refl
exponent_bytes (b ∷ []) h = absurd cc
exponent_bytes (b ∷ c ∷ cs) h =
    let (mark, more) = and_parts (b == 101 || b == 69) ((c == 43 || c == 45 || is_in 49 56 c) && list_all is_ascii_digit cs) h in
    let (first, all) = and_parts (c == 43 || c == 45 || is_in 49 56 c) (list_all is_ascii_digit cs) more in
    rw (indicator_in b mark, first_in c first, all_weaken is_ascii_digit is_number_byte digit_in cs all) refl

float_bytes : {xs : List ℕ} → IsFloat xs → list_all is_number_byte xs ≡ true
float_bytes (with_fraction integer fraction i f) = all_append is_number_byte integer fraction (integer_bytes integer i) (fraction_bytes fraction f)
float_bytes (with_exponent integer exponent i e) = all_append is_number_byte integer exponent (integer_bytes integer i) (exponent_bytes exponent e)
float_bytes (with_both integer fraction exponent i f e) =
    all_append is_number_byte integer (fraction ++ exponent) (integer_bytes integer i)
    (all_append is_number_byte fraction exponent (fraction_bytes fraction f) (exponent_bytes exponent e))

integer_first : (b : ℕ) (bs : List ℕ) → is_integer (b ∷ bs) ≡ true → starts_number b ≡ true
integer_first b bs h =
    elim (cases_Bool (b == 45)) [
      | inl minus ↦ rw minus refl
      | inr plain ↦ rw (plain, natural_digit b bs (rw plain at h)) refl
    ]

-- a run of a number, and its first byte
pub record NumberRun (xs : List ℕ) : Type 0 where
  pub first : ℕ
  pub more : List ℕ
  pub is : xs ≡ first ∷ more
  pub starts : starts_number first ≡ true
  pub in_run : list_all is_in_run xs ≡ true
  pub flat : list_all is_flat xs ≡ true

number_run : (b : ℕ) (bs : List ℕ) → starts_number b ≡ true → list_all is_number_byte (b ∷ bs) ≡ true → NumberRun (b ∷ bs)
number_run b bs h all = record {
  first = b;
  more = bs;
  is = refl;
  starts = h;
  in_run = all_weaken is_number_byte is_in_run number_in_run (b ∷ bs) all;
  flat = all_weaken is_number_byte is_flat number_flat (b ∷ bs) all;
}

pub integer_run : (xs : List ℕ) → is_integer xs ≡ true → NumberRun xs
integer_run [] h = absurd cc
integer_run (b ∷ bs) h = number_run b bs (integer_first b bs h) (integer_bytes (b ∷ bs) h)

longer_run : (xs rest : List ℕ) → is_integer xs ≡ true → list_all is_number_byte (xs ++ rest) ≡ true → NumberRun (xs ++ rest)
longer_run [] rest h all = absurd cc
longer_run (b ∷ bs) rest h all = number_run b (bs ++ rest) (integer_first b bs h) all

pub float_run : {xs : List ℕ} → IsFloat xs → NumberRun xs
float_run (with_fraction integer fraction i f) = longer_run integer fraction i (float_bytes (with_fraction integer fraction i f))
float_run (with_exponent integer exponent i e) = longer_run integer exponent i (float_bytes (with_exponent integer exponent i e))
float_run (with_both integer fraction exponent i f e) = longer_run integer (fraction ++ exponent) i (float_bytes (with_both integer fraction exponent i f e))

-- ---- the number at the front

delimits : (b : ℕ) → is_delimiter b ≡ true → is_in_run b ≡ false
delimits b h = rw h refl

run_front : (xs rest : List ℕ) → list_all is_in_run xs ≡ true → EndsRun rest → prefix_len is_in_run (xs ++ rest) ≡ length xs
run_front xs [] all ends = ap (prefix_len is_in_run) (append-nil xs) ∙ run_all is_in_run xs all
run_front xs (c ∷ rest) all ends = run is_in_run xs (c ∷ rest) all (delimits c ends)

number_front : (xs rest : List ℕ) → list_all is_in_run xs ≡ true → EndsRun rest → number (xs ++ rest) ≡ number_of (length xs) xs
unfolding number
number_front xs rest all ends = rw (run_front xs rest all ends, take_at xs rest (length xs) refl) refl

pub integer_front : (xs rest : List ℕ) → is_integer xs ≡ true → EndsRun rest → number (xs ++ rest) ≡ Takes (length xs) IntValue Unchanged
integer_front xs rest h ends = number_front xs rest (integer_run xs h).in_run ends ∙ rw h refl

float_no_integer : (xs : List ℕ) → is_float xs ≡ true → is_integer xs ≡ false
float_no_integer xs h = elim (cases_Bool (is_integer xs)) [ inl i ↦ absurd (let none = integer_no_float xs i in cc) | inr none ↦ none ]

pub float_front : (xs rest : List ℕ) → IsFloat xs → EndsRun rest → number (xs ++ rest) ≡ Takes (length xs) FloatValue Unchanged
float_front xs rest h ends =
    number_front xs rest (float_run h).in_run ends ∙ rw (float_no_integer xs (float_found h), float_found h) refl

-- the run at the front, and what ends it
ends_run : (rest : List ℕ) → (0 < length rest → is_in_run (get_or rest 0 0) ≡ false) → EndsRun rest
ends_run [] h = tt
ends_run (c ∷ cs) h = not-false _ (h (omega arith))

pub run_parts : (xs : List ℕ) → (rest : List ℕ) × (xs ≡ run_at xs ++ rest) × EndsRun rest
run_parts xs =
    let r = run_of is_in_run xs in
    let here : run_at xs ≡ r.0 = ap (take (prefix_len is_in_run xs)) r.2 ∙ take_at r.0 r.1 (prefix_len is_in_run xs) (sym r.4) in
    (r.1, r.2 ∙ ap (λ l. l ++ r.1) (sym here), ends_run r.1 r.5)
