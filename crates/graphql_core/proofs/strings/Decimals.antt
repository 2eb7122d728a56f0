-- Decimal digits, two at a time.
use lib.Dec.{leb-zero}
use Rattle.std.proofs.Common.{ℤ, pos, negsuc, false, int_le, unsigned_abs, sym, refl, true≢false, ◌≡◌, ℕ, ◌+◌, ◌/◌, ◌%◌, ◌^◌, ◌<◌, ◌≤◌, List, [], ◌∷◌, ◌++◌}
use Rattle.std.proofs.Common.{length, ap, ◌∙◌, arith, append_assoc, length-append}
use Rattle.std.proofs.lemmas.Fmt.{decimal_digit, decimal_step}
use Rattle.std.specs.Fmt.{decimal, signed_decimal}

-- a number of two digits
pub two_digits : (n : ℕ) (more : List ℕ) → 10 ≤ n → n < 100 → (48 + n / 10) ∷ (48 + n % 10) ∷ more ≡ decimal n ++ more
two_digits n more low high = rw (decimal_step n low (omega arith), decimal_digit (n / 10) (omega arith))

-- the last two digits of a longer one
pub last_pair : (n : ℕ) (more : List ℕ) → 100 ≤ n → n < 2 ^ 64 → decimal (n / 100) ++ ((48 + n % 100 / 10) ∷ (48 + n % 100 % 10) ∷ more) ≡ decimal n ++ more
last_pair n more low high =
    let front : n / 10 / 10 ≡ n / 100 = omega arith in
    let tens : n / 10 % 10 ≡ n % 100 / 10 = omega arith in
    let ones : n % 10 ≡ n % 100 % 10 = omega arith in
    rw (decimal_step n (omega arith) high, decimal_step (n / 10) (omega arith) (omega arith), append_assoc, append_assoc, front, tens, ones)

-- the lengths of such numbers
pub one_long : (n : ℕ) → n < 10 → length (decimal n) ≡ 1
one_long n high = ap length (decimal_digit n high)

pub two_long : (n : ℕ) → 10 ≤ n → n < 100 → length (decimal n) ≡ 2
two_long n low high = omega (arith, ap length (two_digits n [] low high), length-append (decimal n) [])

pub two_longer : (n : ℕ) → 100 ≤ n → n < 2 ^ 64 → length (decimal n) ≡ length (decimal (n / 100)) + 2
two_longer n low high =
    omega (
      arith,
      ap length (last_pair n [] low high),
      length-append (decimal n) [],
      length-append (decimal (n / 100)) ((48 + n % 100 / 10) ∷ (48 + n % 100 % 10) ∷ []),
    )

-- a minus before the digits of a negative integer
pub minus_first : (z : ℤ) → int_le (pos 0) z ≡ false → 45 ∷ decimal (unsigned_abs z) ≡ signed_decimal z
minus_first (pos n) negative = absurd (true≢false (sym (leb-zero n) ∙ negative))
minus_first (negsuc n) negative = refl
