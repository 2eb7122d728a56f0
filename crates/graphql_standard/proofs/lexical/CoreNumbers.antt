-- A number of `graphql_core` is one of September 2025, or no number of September 2025 begins the input.
use Rattle.std.specs.Char.{is_ascii_digit}
use Rattle.std.specs.List.{list_all}
use Rattle.std.specs.Str.{IsCharBoundary, IsUtf8}
use Rattle.std.proofs.Common.{◌≡◌, ℕ, suc, ◌+◌, ◌-◌, ◌<◌, ◌⊎◌, true, false, ◌&&◌, ◌||◌, ◌==◌, if◌then◌else◌, List, [], ◌∷◌, ◌++◌, length, get_or, None}
use Rattle.std.proofs.Common.{refl, sym, ap, ◌∙◌, subst, inl, inr, arith, append_assoc, length-append}
use Rattle.std.proofs.lemmas.Bool.{cases_Bool, and_parts}
use Rattle.std.proofs.lemmas.Bool.Decides.{nat_tests}
use Rattle.std.proofs.lemmas.List.{get_or_append_left}
use Rattle.std.proofs.lemmas.Str.{IsCharBoundary-after_ascii}
use Rattle.graphql_core.specs.declared.tokenizer.token.Kind.{Kind}
use Rattle.graphql_core.specs.declared.tokenizer.token.Kind.TheVariants.{IntValue, FloatValue}
use Rattle.graphql_core.specs.lexical.Lexical.{is_natural, is_integer, is_fraction, is_exponent, is_in, EndsRun, IsFloat}
use Rattle.graphql_core.specs.lexical.Lexical as core
use Rattle.graphql_core.specs.steps.Numbers.{digits_len}
use Rattle.graphql_core.proofs.lexical.Runs.{run}
use Rattle.graphql_core.proofs.lexical.Numbers.{natural_digits}
use Rattle.graphql_standard.specs.lexical.Numbers.{is_digits, is_sign, is_indicator, is_exponent_part, with_fraction, with_exponent, with_both}
use Rattle.graphql_standard.specs.lexical.Numbers.{IsNumber, int_value, float_value, continues_number, EndsNumber}
use Rattle.graphql_standard.specs.steps.Numbers.{ends_in_digit, exponent_len, number_of, after_fraction, number_front}
use Rattle.graphql_standard.proofs.lexical.Numbers.{NoDigit, no_digit, indicator_no_digit, indicator_no_dot, dot_no_digit, fraction_first, past_integer, without_fraction, with_fraction_found, FrontNumber}

pub ends_number : (rest : List ℕ) → EndsRun rest → EndsNumber rest
ends_number [] h = refl
ends_number (b ∷ bs) h = grind (arith, nat_tests)

last_of : (xs ys : List ℕ) → 0 < length ys → ends_in_digit (xs ++ ys) ≡ ends_in_digit ys
last_of [] ys some = refl
last_of (b ∷ []) ys some = let n : length (b ∷ ys) - 1 ≡ suc (length ys - 1) = omega (arith, some) in rw n refl
last_of (b ∷ c ∷ xs) ys some =
    let n : length (b ∷ c ∷ (xs ++ ys)) - 1 ≡ suc (length (c ∷ (xs ++ ys)) - 1) = omega arith in
    rw n (last_of (c ∷ xs) ys some)

last_digit : (xs : List ℕ) → is_digits xs ≡ true → ends_in_digit xs ≡ true
last_digit [] h = absurd cc
last_digit (b ∷ []) h = (and_parts (is_ascii_digit b) true h).0
last_digit (b ∷ c ∷ cs) h =
    last_of (b ∷ []) (c ∷ cs) (omega arith) ∙ last_digit (c ∷ cs) (and_parts (is_ascii_digit b) (list_all is_ascii_digit (c ∷ cs)) h).1

-- `e` or `E`, and then a sign without digits: no exponent of the standard
pub record IsBareExponent (xs : List ℕ) : Type 0 where
  pub indicator : ℕ
  pub sign : ℕ
  pub is : xs ≡ indicator ∷ sign ∷ []
  pub is_indicator : is_indicator indicator ≡ true
  pub is_sign : is_sign sign ≡ true

-- an exponent of `graphql_core`
exponent_cases : (xs : List ℕ) → is_exponent xs ≡ true → IsBareExponent xs ⊎ (is_exponent_part xs ≡ true)
exponent_cases [] h = absurd cc
exponent_cases (b ∷ []) h = absurd cc
exponent_cases (b ∷ c ∷ cs) h =
    let (mark, more) = and_parts (b == 101 || b == 69) ((c == 43 || c == 45 || is_in 49 56 c) && list_all is_ascii_digit cs) h in
    let (first, all) = and_parts (c == 43 || c == 45 || is_in 49 56 c) (list_all is_ascii_digit cs) more in
    elim (cases_Bool (is_sign c)) [
      | inl sign ↦ signed cs mark sign all
      | inr plain ↦ inr (rw (mark, plain, small_digit c first plain) all)
    ]
  where
    small_digit : (c : ℕ) → (c == 43 || c == 45 || is_in 49 56 c) ≡ true → is_sign c ≡ false → is_ascii_digit c ≡ true
    small_digit c first plain = grind (arith, nat_tests)

    signed : (cs : List ℕ) → is_indicator b ≡ true → is_sign c ≡ true → list_all is_ascii_digit cs ≡ true
        → IsBareExponent (b ∷ c ∷ cs) ⊎ (is_exponent_part (b ∷ c ∷ cs) ≡ true)
    signed [] mark sign all = inl (record { indicator = b; sign = c; is = refl; is_indicator = mark; is_sign = sign })
    signed (d ∷ ds) mark sign all = inr (rw (mark, sign) all)

bare_ends : {xs : List ℕ} → IsBareExponent xs → ends_in_digit xs ≡ false
bare_ends b = rw b.is (sign_no_digit b.sign b.is_sign)
  where
    sign_no_digit : (c : ℕ) → is_sign c ≡ true → is_ascii_digit c ≡ false
    sign_no_digit c h = grind (arith, nat_tests)

no_digit_after : (rest : List ℕ) → EndsRun rest → NoDigit rest
no_digit_after rest ends = no_digit (get_or rest 0 0) (ends_number rest ends)

-- no number ends before a sign without digits
bare_stops : (n f b c : ℕ) (rest : List ℕ) → is_indicator b ≡ true → is_sign c ≡ true → NoDigit rest → after_fraction n f (b ∷ c ∷ rest) ≡ None
unfolding exponent_len
bare_stops n f b c rest mark sign stop =
    let none : digits_len rest ≡ 0 = run is_ascii_digit [] rest refl stop in
    rw (mark, sign, none) (stops n f (continues b mark))
  where
    continues : (b : ℕ) → is_indicator b ≡ true → continues_number b ≡ true
    continues b h = grind (arith, nat_tests)

    stops : (n f : ℕ) → continues_number b ≡ true → number_of n f 0 (b ∷ c ∷ rest) ≡ None
    stops n f h = elim (cases_Bool (n == 0)) [ inl none ↦ rw none refl | inr some ↦ rw (some, h) refl ]

-- `number` is a number of the kind `k`, or it ends in a sign, and no number is at the front of the input
pub data FromCore (k : Kind) (number rest : List ℕ) : Type 0 where
  is_number : IsNumber k number → ends_in_digit number ≡ true → FromCore k number rest
  is_bare : ends_in_digit number ≡ false → number_front (number ++ rest) ≡ None → FromCore k number rest

natural_is_digits : (xs : List ℕ) → is_natural xs ≡ true → is_digits xs ≡ true
natural_is_digits [] h = absurd cc
natural_is_digits (b ∷ bs) h = natural_digits (b ∷ bs) h

digits_ends : (front xs : List ℕ) → is_digits xs ≡ true → ends_in_digit (front ++ xs) ≡ true
digits_ends front [] h = absurd cc
digits_ends front (b ∷ bs) h = last_of front (b ∷ bs) (omega arith) ∙ last_digit (b ∷ bs) h

integer_ends : (xs : List ℕ) → is_integer xs ≡ true → ends_in_digit xs ≡ true
integer_ends [] h = absurd cc
integer_ends (b ∷ bs) h =
    elim (cases_Bool (b == 45)) [
      | inl minus ↦ digits_ends (b ∷ []) bs (natural_is_digits bs (rw minus at h))
      | inr plain ↦ last_digit (b ∷ bs) (natural_is_digits (b ∷ bs) (rw plain at h))
    ]

fraction_ends : (front xs : List ℕ) → is_fraction xs ≡ true → ends_in_digit (front ++ xs) ≡ true
fraction_ends front [] h = absurd cc
fraction_ends front (b ∷ []) h = absurd cc
fraction_ends front (b ∷ c ∷ cs) h =
    last_of front (b ∷ c ∷ cs) (omega arith) ∙ digits_ends (b ∷ []) (c ∷ cs) (and_parts (b == 46) (list_all is_ascii_digit (c ∷ cs)) h).1

exponent_ends : (front xs : List ℕ) → is_exponent_part xs ≡ true → ends_in_digit (front ++ xs) ≡ true
exponent_ends front [] h = absurd cc
exponent_ends front (b ∷ []) h = absurd cc
exponent_ends front (b ∷ c ∷ cs) h =
    let digits = (and_parts (is_indicator b) (if is_sign c then is_digits cs else is_digits (c ∷ cs)) h).1 in
    last_of front (b ∷ c ∷ cs) (omega arith)
    ∙ elim (cases_Bool (is_sign c)) [
      | inl sign ↦ digits_ends (b ∷ c ∷ []) cs (rw sign at digits)
      | inr plain ↦ digits_ends (b ∷ []) (c ∷ cs) (rw plain at digits)
    ]

bare_after : (front xs : List ℕ) → IsBareExponent xs → ends_in_digit (front ++ xs) ≡ false
bare_after front xs b = let some = ap length b.is in last_of front xs (omega (arith, some)) ∙ bare_ends b

-- after an integer, and after a fraction too
bare_integer : (integer exponent rest : List ℕ) → is_integer integer ≡ true → IsBareExponent exponent → EndsRun rest
    → number_front ((integer ++ exponent) ++ rest) ≡ None
bare_integer integer exponent rest i b ends =
    let first : exponent ++ rest ≡ b.indicator ∷ b.sign ∷ rest = ap (λ l. l ++ rest) b.is in
    let after = b.indicator ∷ b.sign ∷ rest in
    ap number_front (append_assoc integer exponent rest ∙ ap (λ l. integer ++ l) first)
    ∙ past_integer integer after i (indicator_no_digit b.indicator b.is_indicator)
    ∙ without_fraction (length integer) after (indicator_no_dot b.indicator b.is_indicator)
    ∙ bare_stops (length integer) 0 b.indicator b.sign rest b.is_indicator b.is_sign (no_digit_after rest ends)

bare_fraction : (integer fraction exponent rest : List ℕ) → is_integer integer ≡ true → is_fraction fraction ≡ true → IsBareExponent exponent → EndsRun rest
    → number_front ((integer ++ (fraction ++ exponent)) ++ rest) ≡ None
bare_fraction integer fraction exponent rest i f b ends =
    let first : exponent ++ rest ≡ b.indicator ∷ b.sign ∷ rest = ap (λ l. l ++ rest) b.is in
    let after = b.indicator ∷ b.sign ∷ rest in
    let dot = dot_no_digit (get_or (fraction ++ after) 0 0) (fraction_first fraction after f) in
    ap number_front (append_assoc integer (fraction ++ exponent) rest ∙ ap (λ l. integer ++ l) (append_assoc fraction exponent rest
    ∙ ap (λ l. fraction ++ l) first))
    ∙ past_integer integer (fraction ++ after) i dot
    ∙ with_fraction_found (length integer) fraction after f (indicator_no_digit b.indicator b.is_indicator)
    ∙ bare_stops (length integer) (length fraction) b.indicator b.sign rest b.is_indicator b.is_sign (no_digit_after rest ends)

pub from_integer : (number rest : List ℕ) → is_integer number ≡ true → FromCore IntValue number rest
from_integer number rest h = is_number (int_value h) (integer_ends number h)

pub from_float : {number : List ℕ} → IsFloat number → (rest : List ℕ) → EndsRun rest → FromCore FloatValue number rest
from_float (core.with_fraction integer fraction i f) rest ends =
    is_number (float_value (with_fraction integer fraction i f)) (fraction_ends integer fraction f)
from_float (core.with_exponent integer exponent i e) rest ends =
    elim (exponent_cases exponent e) [
      | inl bare ↦ is_bare (bare_after integer exponent bare) (bare_integer integer exponent rest i bare ends)
      | inr part ↦ is_number (float_value (with_exponent integer exponent i part)) (exponent_ends integer exponent part)
    ]
from_float (core.with_both integer fraction exponent i f e) rest ends =
    let whole = sym (append_assoc integer fraction exponent) in
    elim (exponent_cases exponent e) [
      | inl bare ↦ is_bare (ap ends_in_digit whole ∙ bare_after (integer ++ fraction) exponent bare)
          (bare_fraction integer fraction exponent rest i f bare ends)
      | inr part ↦ is_number (float_value (with_both integer fraction exponent i f part))
          (ap ends_in_digit whole ∙ exponent_ends (integer ++ fraction) exponent part)
    ]

pub number_ends : {k : Kind} {number : List ℕ} → IsNumber k number → ends_in_digit number ≡ true
number_ends (int_value {number} h) = integer_ends number h
number_ends (float_value (with_fraction integer fraction i f)) = fraction_ends integer fraction f
number_ends (float_value (with_exponent integer exponent i e)) = exponent_ends integer exponent e
number_ends (float_value (with_both integer fraction exponent i f e)) =
    ap ends_in_digit (sym (append_assoc integer fraction exponent)) ∙ exponent_ends (integer ++ fraction) exponent e

-- what is found ends before a character
pub some_number : (number : List ℕ) → ends_in_digit number ≡ true → 0 < length number
some_number [] h = absurd cc
some_number (b ∷ bs) h = omega arith

digit_small : (b : ℕ) → is_ascii_digit b ≡ true → b < 128
digit_small b h = grind (arith, nat_tests)

pub number_boundary : (text : List ℕ) (n : ℕ) (k : Kind) → IsUtf8 text → FrontNumber text n k → (0 < n) × IsCharBoundary text n
number_boundary text n k u f =
    let last = number_ends f.is in
    let some = some_number f.number last in
    let long = ap length f.whole ∙ length-append f.number f.rest in
    let len = f.len in
    let one : n - 1 + 1 ≡ n = omega arith in
    let at : get_or text (n - 1) 0 ≡ get_or f.number (length f.number - 1) 0 =
    ap (λ t. get_or t (n - 1) 0) f.whole ∙ get_or_append_left f.number f.rest 0 (n - 1) (omega arith) ∙ ap (λ i. get_or f.number (i - 1) 0) (sym len) in
    let small = digit_small (get_or f.number (length f.number - 1) 0) last in
    (omega arith, subst (IsCharBoundary text) one (IsCharBoundary-after_ascii text (n - 1) u (omega arith) (omega (arith, small, at))))
