-- Numbers: `number_front` finds the number at the front of an input.
use Rattle.std.specs.Char.{is_ascii_digit}
use Rattle.std.specs.List.{list_all}
use Rattle.std.proofs.Common.{◌≡◌, ◌≢◌, ℕ, suc, ◌+◌, ◌≤◌, ◌⊎◌, true, false, ◌==◌, if◌then◌else◌, List, [], ◌∷◌, ◌++◌, length, get_or, take, drop, Option, Some}
use Rattle.std.proofs.Common.{refl, sym, ap, ◌∙◌, subst, inl, inr, arith, eqb-true, append_assoc, length-append}
use Rattle.std.proofs.lemmas.Bool.{cases_Bool, and_parts}
use Rattle.std.proofs.lemmas.Bool.Decides.{nat_tests}
use Rattle.std.proofs.lemmas.List.{take_at, drop_at, take-append-drop, append-nil, length-take-le}
use Rattle.std.proofs.lemmas.List.Sums.{prefix_len-le-length}
use Rattle.graphql_core.specs.declared.tokenizer.token.Kind.{Kind}
use Rattle.graphql_core.specs.declared.tokenizer.token.Kind.TheVariants.{IntValue, FloatValue}
use Rattle.graphql_core.specs.lexical.Lexical.{is_natural, is_integer, is_fraction, is_in}
use Rattle.graphql_core.specs.steps.Numbers.{digits_len}
use Rattle.graphql_core.proofs.lexical.Runs.{run, run_of}
use Rattle.graphql_core.proofs.lexical.Numbers.{natural_digits, natural_integer}
use Rattle.graphql_core.proofs.lexical.PlainNumbers.{natural_taken, fraction_taken}
use Rattle.graphql_standard.specs.lexical.Numbers.{is_digits, is_sign, is_indicator, is_exponent_part, IsFloatValue, with_fraction, with_exponent, with_both}
use Rattle.graphql_standard.specs.lexical.Numbers.{IsNumber, int_value, float_value, continues_number, EndsNumber}
use Rattle.graphql_standard.specs.steps.Numbers.{with_digits, natural_len, integer_len, fraction_len, exponent_len, number_of, after_fraction, after_integer, number_front}

-- ---- the byte after a number or a part of it

abbrev pub NoDigit : List ℕ → Type 0
NoDigit rest = is_ascii_digit (get_or rest 0 0) ≡ false

pub no_digit : (b : ℕ) → continues_number b ≡ false → is_ascii_digit b ≡ false
no_digit b h = grind (arith, nat_tests)

no_dot : (b : ℕ) → continues_number b ≡ false → (b == 46) ≡ false
no_dot b h = grind (arith, nat_tests)

no_indicator : (b : ℕ) → continues_number b ≡ false → is_indicator b ≡ false
no_indicator b h = grind (arith, nat_tests)

pub indicator_no_digit : (b : ℕ) → is_indicator b ≡ true → is_ascii_digit b ≡ false
indicator_no_digit b h = grind (arith, nat_tests)

pub indicator_no_dot : (b : ℕ) → is_indicator b ≡ true → (b == 46) ≡ false
indicator_no_dot b h = grind (arith, nat_tests)

pub dot_no_digit : (b : ℕ) → (b == 46) ≡ true → is_ascii_digit b ≡ false
dot_no_digit b h = grind (arith, nat_tests)

-- ---- a number that is at the front is found

some_length : (b : ℕ) (bs : List ℕ) → (length (b ∷ bs) == 0) ≡ false
some_length b bs = grind (arith, nat_tests)

no_zero : (b : ℕ) → is_in 49 57 b ≡ true → (b == 48) ≡ false
no_zero b h = grind (arith, nat_tests)

natural_found : (xs rest : List ℕ) → is_natural xs ≡ true → NoDigit rest → natural_len (xs ++ rest) ≡ length xs
natural_found [] rest h stop = absurd cc
natural_found (b ∷ []) rest h stop =
    elim (cases_Bool (b == 48)) [
      | inl zero ↦ rw zero refl
      | inr other ↦ rw other (run is_ascii_digit (b ∷ []) rest (natural_digits (b ∷ []) h) stop)
    ]
natural_found (b ∷ c ∷ cs) rest h stop =
    rw (no_zero b (and_parts (is_in 49 57 b) (list_all is_ascii_digit (c ∷ cs)) h).0)
    (run is_ascii_digit (b ∷ c ∷ cs) rest (natural_digits (b ∷ c ∷ cs) h) stop)

natural_some : (xs : List ℕ) → is_natural xs ≡ true → (length xs == 0) ≡ false
natural_some [] h = absurd cc
natural_some (b ∷ bs) h = some_length b bs

integer_found : (xs rest : List ℕ) → is_integer xs ≡ true → NoDigit rest → integer_len (xs ++ rest) ≡ length xs
unfolding integer_len
integer_found [] rest h stop = absurd cc
integer_found (b ∷ bs) rest h stop =
    elim (cases_Bool (b == 45)) [
      | inl minus ↦
          let natural = rw minus at h in
          rw (minus, natural_found bs rest natural stop, natural_some bs natural) (omega arith)
      | inr plain ↦ rw plain (natural_found (b ∷ bs) rest (rw plain at h) stop)
    ]

integer_some : (xs : List ℕ) → is_integer xs ≡ true → (length xs == 0) ≡ false
integer_some [] h = absurd cc
integer_some (b ∷ bs) h = some_length b bs

fraction_found : (xs rest : List ℕ) → is_fraction xs ≡ true → NoDigit rest → fraction_len (xs ++ rest) ≡ length xs
unfolding fraction_len
fraction_found [] rest h stop = absurd cc
fraction_found (b ∷ []) rest h stop = absurd cc
fraction_found (b ∷ c ∷ cs) rest h stop =
    let (dot, all) = and_parts (b == 46) (list_all is_ascii_digit (c ∷ cs)) h in
    rw (dot, run is_ascii_digit (c ∷ cs) rest all stop, some_length c cs) (omega arith)

digits_all : (xs : List ℕ) → is_digits xs ≡ true → list_all is_ascii_digit xs ≡ true
digits_all [] h = refl
digits_all (b ∷ bs) h = h

digits_found : (before : ℕ) (xs rest : List ℕ) → is_digits xs ≡ true → NoDigit rest → with_digits before (digits_len (xs ++ rest)) ≡ before + length xs
digits_found before [] rest h stop = absurd cc
digits_found before (b ∷ bs) rest h stop = rw (run is_ascii_digit (b ∷ bs) rest h stop, some_length b bs) refl

exponent_found : (xs rest : List ℕ) → is_exponent_part xs ≡ true → NoDigit rest → exponent_len (xs ++ rest) ≡ length xs
unfolding exponent_len
exponent_found [] rest h stop = absurd cc
exponent_found (b ∷ []) rest h stop = absurd cc
exponent_found (b ∷ c ∷ cs) rest h stop =
    let (mark, digits) = and_parts (is_indicator b) (if is_sign c then is_digits cs else is_digits (c ∷ cs)) h in
    elim (cases_Bool (is_sign c)) [
      | inl sign ↦ rw (mark, sign) (digits_found 2 cs rest (rw sign at digits) stop ∙ omega arith)
      | inr plain ↦ rw (mark, plain) (digits_found 1 (c ∷ cs) rest (rw plain at digits) stop ∙ omega arith)
    ]

no_fraction_found : (rest : List ℕ) → (get_or rest 0 0 == 46) ≡ false → fraction_len rest ≡ 0
unfolding fraction_len
no_fraction_found rest h = rw h refl

no_exponent_found : (rest : List ℕ) → is_indicator (get_or rest 0 0) ≡ false → exponent_len rest ≡ 0
unfolding exponent_len
no_exponent_found rest h = rw h refl

abbrev kind_with : ℕ → Kind
kind_with n = if n == 0 then IntValue else FloatValue

-- after the integer and the fraction comes the end of the number
past_fraction : (n f : ℕ) (rest : List ℕ) → (n == 0) ≡ false → EndsNumber rest → after_fraction n f rest ≡ Some (n + (f + 0), kind_with (f + 0))
past_fraction n f rest some ends =
    let none = no_exponent_found rest (no_indicator (get_or rest 0 0) ends) in
    rw (none, some, ends) refl

past_exponent : (n f : ℕ) (exponent rest : List ℕ) → (n == 0) ≡ false → is_exponent_part exponent ≡ true → EndsNumber rest
    → after_fraction n f (exponent ++ rest) ≡ Some (n + (f + length exponent), kind_with (f + length exponent))
past_exponent n f exponent rest some e ends =
    let taken = exponent_found exponent rest e (no_digit (get_or rest 0 0) ends) in
    rw (taken, drop_at exponent rest (length exponent) refl, some, ends) refl

-- the first byte of a part, in front of what follows
exponent_first : (xs rest : List ℕ) → is_exponent_part xs ≡ true → is_indicator (get_or (xs ++ rest) 0 0) ≡ true
exponent_first [] rest h = absurd cc
exponent_first (b ∷ []) rest h = absurd cc
exponent_first (b ∷ c ∷ cs) rest h = (and_parts (is_indicator b) (if is_sign c then is_digits cs else is_digits (c ∷ cs)) h).0

pub fraction_first : (xs rest : List ℕ) → is_fraction xs ≡ true → (get_or (xs ++ rest) 0 0 == 46) ≡ true
fraction_first [] rest h = absurd cc
fraction_first (b ∷ []) rest h = absurd cc
fraction_first (b ∷ c ∷ cs) rest h = (and_parts (b == 46) (list_all is_ascii_digit (c ∷ cs)) h).0

-- an integer, and then a list that begins with no digit
pub past_integer : (integer rest : List ℕ) → is_integer integer ≡ true → NoDigit rest → number_front (integer ++ rest) ≡ after_integer (length integer) rest
unfolding number_front
past_integer integer rest h stop = rw (integer_found integer rest h stop, drop_at integer rest (length integer) refl) refl

pub without_fraction : (n : ℕ) (rest : List ℕ) → (get_or rest 0 0 == 46) ≡ false → after_integer n rest ≡ after_fraction n 0 rest
without_fraction n rest h = rw (no_fraction_found rest h) refl

pub with_fraction_found : (n : ℕ) (fraction rest : List ℕ) → is_fraction fraction ≡ true → NoDigit rest
    → after_integer n (fraction ++ rest) ≡ after_fraction n (length fraction) rest
with_fraction_found n fraction rest h stop = rw (fraction_found fraction rest h stop, drop_at fraction rest (length fraction) refl) refl

abbrev pub found : ℕ → Kind → Option (ℕ × Kind)
found n k = Some (n, k)

found_as : (i j : ℕ) (k l : Kind) → i ≡ j → k ≡ l → found i k ≡ found j l
found_as i j k l e f = rw (e, f) refl

float_kind : (n : ℕ) → (n == 0) ≡ false → kind_with n ≡ FloatValue
float_kind n h = rw h refl

fraction_some : (xs : List ℕ) (e : ℕ) → is_fraction xs ≡ true → (length xs + e == 0) ≡ false
fraction_some [] e h = absurd cc
fraction_some (b ∷ bs) e h = grind (arith, nat_tests)

exponent_some : (f : ℕ) (xs : List ℕ) → is_exponent_part xs ≡ true → (f + length xs == 0) ≡ false
exponent_some f [] h = absurd cc
exponent_some f (b ∷ bs) h = grind (arith, nat_tests)

float_found : {number : List ℕ} → IsFloatValue number → (rest : List ℕ) → EndsNumber rest → number_front (number ++ rest) ≡ Some (length number, FloatValue)
float_found (with_fraction integer fraction i f) rest ends =
    let dot = fraction_first fraction rest f in
    ap number_front (append_assoc integer fraction rest)
    ∙ past_integer integer (fraction ++ rest) i (dot_no_digit _ dot)
    ∙ with_fraction_found (length integer) fraction rest f (no_digit (get_or rest 0 0) ends)
    ∙ past_fraction (length integer) (length fraction) rest (integer_some integer i) ends
    ∙ found_as _ _ _ _ (omega (arith, length-append integer fraction)) (float_kind _ (fraction_some fraction 0 f))
float_found (with_exponent integer exponent i e) rest ends =
    let mark = exponent_first exponent rest e in
    ap number_front (append_assoc integer exponent rest)
    ∙ past_integer integer (exponent ++ rest) i (indicator_no_digit (get_or (exponent ++ rest) 0 0) mark)
    ∙ without_fraction (length integer) (exponent ++ rest) (indicator_no_dot _ mark)
    ∙ past_exponent (length integer) 0 exponent rest (integer_some integer i) e ends
    ∙ found_as _ _ _ _ (omega (arith, length-append integer exponent)) (float_kind (0 + length exponent) (exponent_some 0 exponent e))
float_found (with_both integer fraction exponent i f e) rest ends =
    let dot = fraction_first fraction (exponent ++ rest) f in
    let mark = exponent_first exponent rest e in
    ap number_front (append_assoc integer (fraction ++ exponent) rest ∙ ap (λ l. integer ++ l) (append_assoc fraction exponent rest))
    ∙ past_integer integer (fraction ++ (exponent ++ rest)) i (dot_no_digit _ dot)
    ∙ with_fraction_found (length integer) fraction (exponent ++ rest) f (indicator_no_digit (get_or (exponent ++ rest) 0 0) mark)
    ∙ past_exponent (length integer) (length fraction) exponent rest (integer_some integer i) e ends
    ∙ found_as _ _ _ _ (omega (arith, length-append integer (fraction ++ exponent), length-append fraction exponent))
    (float_kind _ (fraction_some fraction (length exponent) f))

pub number_found : {k : Kind} {number : List ℕ} → IsNumber k number → (rest : List ℕ) → EndsNumber rest
    → number_front (number ++ rest) ≡ Some (length number, k)
number_found (int_value {number} h) rest ends =
    past_integer number rest h (no_digit (get_or rest 0 0) ends) ∙ without_fraction (length number) rest (no_dot (get_or rest 0 0) ends)
    ∙ past_fraction (length number) 0 rest (integer_some number h) ends ∙ found_as _ _ _ _ (omega arith) refl
number_found (float_value h) rest ends = float_found h rest ends

-- ---- what is found is a number

first_of : (bytes : List ℕ) (k : ℕ) → k ≢ 0 → (get_or bytes 0 0 == k) ≡ true → (more : List ℕ) × (bytes ≡ k ∷ more)
first_of [] k some h = absurd (grind (arith, nat_tests))
first_of (b ∷ bs) k some h = (bs, ap (λ x. x ∷ bs) (eqb-true b k h))

not_zero : (n : ℕ) → (n == 0) ≡ false → n ≢ 0
not_zero n h = λ e. absurd (grind (arith, nat_tests))

not_at : (b k : ℕ) → (b == k) ≡ false → b ≢ k
not_at b k h = λ e. absurd (grind (arith, nat_tests))

natural_is : (bytes : List ℕ) → (natural_len bytes == 0) ≡ false → is_natural (take (natural_len bytes) bytes) ≡ true
natural_is bytes some =
    elim (cases_Bool (get_or bytes 0 0 == 48)) [
      | inl zero ↦ let (more, is) = first_of bytes 48 (omega arith) zero in rw is refl
      | inr other ↦ rw other
          (natural_taken bytes (digits_len bytes) refl (not_zero _ (rw other at some)) (λ two. not_at (get_or bytes 0 0) 48 other))
    ]

-- the digits after some bytes, if there are any
digits_some : (before n : ℕ) → (with_digits before n == 0) ≡ false → (n == 0) ≡ false
digits_some before n h =
    elim (cases_Bool (n == 0)) [
      | inl zero ↦ absurd (let none = rw zero at h in cc)
      | inr some ↦ some
    ]

integer_is : (bytes : List ℕ) → (integer_len bytes == 0) ≡ false → is_integer (take (integer_len bytes) bytes) ≡ true
unfolding integer_len
integer_is [] some = absurd cc
integer_is (b ∷ bs) some =
    elim (cases_Bool (b == 45)) [
      | inl minus ↦
          let natural = digits_some 1 (natural_len bs) (rw minus at some) in
          let one : 1 + natural_len bs ≡ suc (natural_len bs) = omega arith in
          rw (minus, natural, one, minus) (natural_is bs natural)
      | inr plain ↦ rw plain (natural_integer (take (natural_len (b ∷ bs)) (b ∷ bs)) (natural_is (b ∷ bs) (rw plain at some)))
    ]

fraction_is : (bytes : List ℕ) → (fraction_len bytes == 0) ≡ false → is_fraction (take (fraction_len bytes) bytes) ≡ true
unfolding fraction_len
fraction_is [] some = absurd cc
fraction_is (b ∷ bs) some =
    elim (cases_Bool (b == 46)) [
      | inl dot ↦
          let digits = digits_some 1 (digits_len bs) (rw dot at some) in
          let one : digits_len bs + 1 ≡ 1 + digits_len bs = omega arith in
          rw (dot, digits) (rw one at (fraction_taken b bs (digits_len bs) (eqb-true b 46 dot) refl (not_zero _ digits)))
      | inr none ↦ absurd (let zero = rw none at some in cc)
    ]

digits_taken : (bytes : List ℕ) → (digits_len bytes == 0) ≡ false → is_digits (take (digits_len bytes) bytes) ≡ true
digits_taken bytes some =
    let r = run_of is_ascii_digit bytes in
    let taken : take (digits_len bytes) bytes ≡ r.0 = ap (take (digits_len bytes)) r.2 ∙ take_at r.0 r.1 (digits_len bytes) (sym r.4) in
    rw taken (all_digits r.0 r.3 (rw r.4 at some))
  where
    all_digits : (xs : List ℕ) → list_all is_ascii_digit xs ≡ true → (length xs == 0) ≡ false → is_digits xs ≡ true
    all_digits [] all h = absurd cc
    all_digits (b ∷ bs) all h = all

digit_no_sign : (b : ℕ) → is_ascii_digit b ≡ true → is_sign b ≡ false
digit_no_sign b h = grind (arith, nat_tests)

-- `e` or `E`, and then digits, or a sign and digits
plain_exponent : (b : ℕ) (xs : List ℕ) → is_indicator b ≡ true → is_digits xs ≡ true → is_exponent_part (b ∷ xs) ≡ true
plain_exponent b [] mark all = absurd cc
plain_exponent b (c ∷ cs) mark all =
    let plain = digit_no_sign c (and_parts (is_ascii_digit c) (list_all is_ascii_digit cs) all).0 in rw (mark, plain) all

signed_exponent : (b c : ℕ) (xs : List ℕ) → is_indicator b ≡ true → is_sign c ≡ true → is_digits xs ≡ true → is_exponent_part (b ∷ c ∷ xs) ≡ true
signed_exponent b c xs mark sign all = rw (mark, sign) all

exponent_after : (b : ℕ) (bs : List ℕ) → is_indicator b ≡ true → (exponent_len (b ∷ bs) == 0) ≡ false → is_exponent_part (take (exponent_len (b ∷ bs)) (b ∷ bs)) ≡ true
unfolding exponent_len
exponent_after b [] mark some = absurd (let zero = rw mark at some in cc)
exponent_after b (c ∷ cs) mark some =
    elim (cases_Bool (is_sign c)) [
      | inl sign ↦
          let digits = digits_some 2 (digits_len cs) (rw (mark, sign) at some) in
          let two : 2 + digits_len cs ≡ suc (suc (digits_len cs)) = omega arith in
          rw (mark, sign, digits, two) (signed_exponent b c (take (digits_len cs) cs) mark sign (digits_taken cs digits))
      | inr plain ↦
          let digits = digits_some 1 (digits_len (c ∷ cs)) (rw (mark, plain) at some) in
          let one : 1 + digits_len (c ∷ cs) ≡ suc (digits_len (c ∷ cs)) = omega arith in
          rw (mark, plain, digits, one) (plain_exponent b (take (digits_len (c ∷ cs)) (c ∷ cs)) mark (digits_taken (c ∷ cs) digits))
    ]

exponent_is : (bytes : List ℕ) → (exponent_len bytes == 0) ≡ false → is_exponent_part (take (exponent_len bytes) bytes) ≡ true
unfolding exponent_len
exponent_is [] some = absurd cc
exponent_is (b ∷ bs) some =
    elim (cases_Bool (is_indicator b)) [
      | inl mark ↦ exponent_after b bs mark some
      | inr none ↦ absurd (let zero = rw none at some in cc)
    ]

-- the first `n` bytes are a number of the kind `k`, which ends there
pub record FrontNumber (bytes : List ℕ) (n : ℕ) (k : Kind) : Type 0 where
  pub number : List ℕ
  pub rest : List ℕ
  pub whole : bytes ≡ number ++ rest
  pub len : length number ≡ n
  pub is : IsNumber k number
  pub ends : EndsNumber rest

-- a list in parts of these lengths
parted : (bytes : List ℕ) (i f e : ℕ) → bytes ≡ (take i bytes ++ (take f (drop i bytes) ++ take e (drop f (drop i bytes)))) ++ drop e (drop f (drop i bytes))
parted bytes i f e =
    let rest = drop f (drop i bytes) in
    sym (take-append-drop i bytes)
    ∙ ap (λ l. take i bytes ++ l) (sym (take-append-drop f (drop i bytes)) ∙ ap (λ l. take f (drop i bytes) ++ l) (sym (take-append-drop e rest))
    ∙ sym (append_assoc (take f (drop i bytes)) (take e rest) (drop e rest)))
    ∙ sym (append_assoc (take i bytes) (take f (drop i bytes) ++ take e rest) (drop e rest))

fraction_or_none : (bytes : List ℕ) → (take (fraction_len bytes) bytes ≡ []) × (fraction_len bytes ≡ 0) ⊎ (is_fraction (take (fraction_len bytes) bytes) ≡ true)
fraction_or_none bytes =
    elim (cases_Bool (fraction_len bytes == 0)) [
      | inl none ↦ let zero = eqb-true (fraction_len bytes) 0 none in inl (rw zero refl, zero)
      | inr some ↦ inr (fraction_is bytes some)
    ]

exponent_or_none : (bytes : List ℕ) → (take (exponent_len bytes) bytes ≡ []) × (exponent_len bytes ≡ 0) ⊎ (is_exponent_part (take (exponent_len bytes) bytes) ≡ true)
exponent_or_none bytes =
    elim (cases_Bool (exponent_len bytes == 0)) [
      | inl none ↦ let zero = eqb-true (exponent_len bytes) 0 none in inl (rw zero refl, zero)
      | inr some ↦ inr (exponent_is bytes some)
    ]

natural_within : (bytes : List ℕ) → natural_len bytes ≤ length bytes
natural_within [] = omega arith
natural_within (b ∷ bs) = let all = prefix_len-le-length is_ascii_digit (b ∷ bs) in grind (arith, nat_tests, all)

integer_within : (bytes : List ℕ) → integer_len bytes ≤ length bytes
unfolding integer_len
integer_within [] = omega arith
integer_within (b ∷ bs) =
    let all = natural_within (b ∷ bs) in
    let more = natural_within bs in
    elim (cases_Bool (b == 45)) [
      | inl minus ↦
          elim (cases_Bool (natural_len bs == 0)) [
            | inl none ↦ rw (minus, none) (omega arith)
            | inr some ↦ rw (minus, some) (omega (arith, more))
          ]
      | inr plain ↦ rw plain all
    ]

fraction_within : (bytes : List ℕ) → fraction_len bytes ≤ length bytes
unfolding fraction_len
fraction_within [] = omega arith
fraction_within (b ∷ bs) = let more = prefix_len-le-length is_ascii_digit bs in grind (arith, nat_tests, more)

exponent_within : (bytes : List ℕ) → exponent_len bytes ≤ length bytes
unfolding exponent_len
exponent_within [] = omega arith
exponent_within (b ∷ []) = grind (arith, nat_tests)
exponent_within (b ∷ c ∷ cs) =
    let all = prefix_len-le-length is_ascii_digit (c ∷ cs) in
    let more = prefix_len-le-length is_ascii_digit cs in
    grind (arith, nat_tests, all, more)

pub found_parts : (i j : ℕ) (k l : Kind) → found i k ≡ found j l → (j ≡ i) × (l ≡ k)
found_parts i j k l e =
    let both : ◌≡◌ {A = ℕ × Kind} (i, k) (j, l) = cc in
    (ap (λ (t : ℕ × Kind). t.0) (sym both), ap (λ (t : ℕ × Kind). t.1) (sym both))

-- the parts of what is found
taken : (i f x : ℕ) (rest : List ℕ) (n : ℕ) (k : Kind) → number_of i f x rest ≡ Some (n, k)
    → ((i == 0) ≡ false) × EndsNumber rest × (n ≡ i + (f + x)) × (k ≡ kind_with (f + x))
taken i f x rest n k e =
    elim (cases_Bool (i == 0)) [
      | inl none ↦ absurd (let h = rw none at e in cc)
      | inr some ↦
          elim (cases_Bool (continues_number (get_or rest 0 0))) [
            | inl on ↦ absurd (let h = rw (some, on) at e in cc)
            | inr ends ↦
                let (len, kind) = found_parts (i + (f + x)) n (kind_with (f + x)) k (rw (some, ends) at e) in
                (some, ends, len, kind)
          ]
    ]

-- a number of these parts
of_parts : (i f x : List ℕ) (a b : ℕ) → is_integer i ≡ true → length f ≡ a → length x ≡ b → (f ≡ []) × (a ≡ 0) ⊎ (is_fraction f ≡ true)
    → (x ≡ []) × (b ≡ 0) ⊎ (is_exponent_part x ≡ true) → IsNumber (kind_with (a + b)) (i ++ (f ++ x))
of_parts i f x a b h la lb (inl (e, za)) (inl (g, zb)) = rw (e, za, g, zb, append-nil) (int_value h)
of_parts i f x a b h la lb (inl (e, za)) (inr p) =
    rw (float_kind (a + b) (rw (za, ← lb) (exponent_some 0 x p)), e) (float_value (with_exponent i x h p))
of_parts i f x a b h la lb (inr q) (inl (g, zb)) =
    rw (float_kind (a + b) (rw (← la) (fraction_some f b q)), g, append-nil) (float_value (with_fraction i f h q))
of_parts i f x a b h la lb (inr q) (inr p) =
    rw (float_kind (a + b) (rw (← la) (fraction_some f b q))) (float_value (with_both i f x h q p))

-- what is found is a number
pub number_is : (bytes : List ℕ) (n : ℕ) (k : Kind) → number_front bytes ≡ Some (n, k) → FrontNumber bytes n k
unfolding number_front
number_is bytes n k e =
    let i = integer_len bytes in
    let after = drop i bytes in
    let f = fraction_len after in
    let last = drop f after in
    let x = exponent_len last in
    let (some, ends, len, kind) = taken i f x (drop x last) n k e in
    let li : length (take i bytes) ≡ i = length-take-le i bytes (integer_within bytes) in
    let lf : length (take f after) ≡ f = length-take-le f after (fraction_within after) in
    let lx : length (take x last) ≡ x = length-take-le x last (exponent_within last) in
    record {
      number = take i bytes ++ (take f after ++ take x last);
      rest = drop x last;
      whole = parted bytes i f x;
      len = omega (arith, length-append (take i bytes) (take f after ++ take x last), length-append (take f after) (take x last), li, lf, lx, len);
      is = subst (λ (j : Kind). IsNumber j (take i bytes ++ (take f after ++ take x last))) (sym kind)
          (of_parts (take i bytes) (take f after) (take x last) f x (integer_is bytes some) lf lx (fraction_or_none after) (exponent_or_none last));
      ends = ends;
    }
