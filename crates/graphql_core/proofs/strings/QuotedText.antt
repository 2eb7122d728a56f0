-- What is written of the characters and lines of strings.
use Rattle.std.specs.List.{slice_index, flat_map, list_any, slice_get, prefix_len}
use Rattle.std.proofs.Common.{◌≡◌, ◌≢◌, ◌∙◌, ap, sym, refl, subst, ℕ, zero, suc, ◌-◌, ◌<◌, ◌≤◌, Bool, true, false, ◌==◌, inl, inr, Some, None, nat_lt, List}
use Rattle.std.proofs.Common.{[], ◌∷◌, ◌++◌, length, get_or, take, drop, codes, arith, append-nil}
use Rattle.std.proofs.Math.Utf8.{encode}
use Rattle.std.proofs.lemmas.Bool.{ne_eqb, cases_Bool, or_parts}
use Rattle.std.proofs.lemmas.List.{drop_all, take_all}
use Rattle.std.proofs.lemmas.Str.{IsCharBoundary-before_ascii, IsCharBoundary-end, encode_ascii, IsCharBoundary-after_ascii}
use Rattle.std.proofs.lemmas.List.Sums.{prefix_len_stops, prefix_len-le-length}
use Rattle.std.specs.Str.{IsUtf8, IsCharBoundary}
use Rattle.std.proofs.lemmas.Bool.Decides.{nat_tests}
use Rattle.graphql_core.proofs.strings.BlockLines.{no_quotes}
use Rattle.graphql_core.specs.{is_unescaped, begins_quotes, hexadecimal_digit, unicode_escape, quoted_byte, escaped_quotes, ends_in_return}
use Rattle.graphql_core.specs.{has_block_form}

-- ---- in quotes

digit_small : (n : ℕ) → n < 16 → hexadecimal_digit n < 128
digit_small n h = grind (arith, nat_tests)

-- the digits of a control character, by its first digit
pub low_control : (b : ℕ) → b < 16 → codes "\\u000" ++ encode (hexadecimal_digit b) ≡ unicode_escape b
low_control b h =
    let test : nat_lt b 16 ≡ true = grind (arith, nat_tests) in
    rw (encode_ascii (hexadecimal_digit b) (digit_small b h), test) refl

pub high_control : (b : ℕ) → 16 ≤ b → b < 32 → codes "\\u001" ++ encode (hexadecimal_digit (b - 16)) ≡ unicode_escape b
high_control b l h =
    let test : nat_lt b 16 ≡ false = grind (arith, nat_tests) in
    rw (encode_ascii (hexadecimal_digit (b - 16)) (digit_small (b - 16) (omega arith)), test) refl

-- a byte that denotes itself
plain_byte : (b : ℕ) → 32 ≤ b → b ≢ 34 → b ≢ 92 → quoted_byte b ≡ b ∷ []
plain_byte b h q s =
    rw (ne_eqb b 13 (λ e. omega arith), ne_eqb b 10 (λ e. omega arith), ne_eqb b 9 (λ e. omega arith), ne_eqb b 34 q, ne_eqb b 92 s)
    (let test : nat_lt b 32 ≡ false = grind (arith, nat_tests) in rw test refl)

-- a byte that is escaped is ASCII
pub escaped_ascii : (b : ℕ) → is_unescaped b ≡ false → b < 128
escaped_ascii b h = grind (arith, nat_tests)

-- if each byte outside a class is ASCII, there is a character boundary after a run of that class
pub run_ends_whole : (p : ℕ → Bool) → ((b : ℕ) → p b ≡ false → b < 128) → (text : List ℕ) (n : ℕ) → n ≡ prefix_len p text → IsCharBoundary text n
run_ends_whole p ascii text n e =
    subst (IsCharBoundary text) (sym e)
    (elim (cases_Bool (nat_lt (prefix_len p text) (length text))) [
      | inl t ↦
          let some : prefix_len p text < length text = grind (arith, nat_tests) in
          IsCharBoundary-before_ascii text _ some (ascii _ (prefix_len_stops p text 0 some))
      | inr t ↦
          let all : prefix_len p text ≡ length text = grind (arith, nat_tests, prefix_len-le-length p text) in
          subst (IsCharBoundary text) (sym all) (IsCharBoundary-end text)
    ])

-- after the bytes that are written unescaped
pub unescaped_boundary : (text : List ℕ) (n : ℕ) → IsUtf8 text → n ≡ prefix_len is_unescaped text → IsCharBoundary text n
unescaped_boundary text n u e = run_ends_whole is_unescaped escaped_ascii text n e

-- the unescaped bytes at the front, and the rest
quoted_run : (text : List ℕ) (n : ℕ) → n ≡ prefix_len is_unescaped text → flat_map quoted_byte text ≡ take n text ++ flat_map quoted_byte (drop n text)
quoted_run text zero e = refl
quoted_run [] (suc n) e = absurd (omega (arith, e))
quoted_run (b ∷ bs) (suc n) e = elim (cases_Bool (is_unescaped b)) [
  | inl holds ↦
      let large : 32 ≤ b = grind (arith, nat_tests) in
      let quote : b ≢ 34 = λ f. grind (arith, nat_tests) in
      let slash : b ≢ 92 = λ f. grind (arith, nat_tests) in
      let more : n ≡ prefix_len is_unescaped bs = omega (arith, rw holds at e) in
      rw (plain_byte b large quote slash) (ap (λ r. b ∷ r) (quoted_run bs n more))
  | inr escaped ↦ absurd (omega (arith, rw escaped at e))
]

pub unescaped_parts : (text run more : List ℕ) (n : ℕ) → n ≡ prefix_len is_unescaped text → run ≡ take n text → more ≡ drop n text
    → flat_map quoted_byte text ≡ run ++ flat_map quoted_byte more
unescaped_parts text run more n e front back =
    quoted_run text n e ∙ ap (λ r. r ++ flat_map quoted_byte (drop n text)) (sym front) ∙ ap (λ r. run ++ flat_map quoted_byte r) (sym back)

-- a string without escapes has no line feed, so no block form
one_line : (text : List ℕ) → prefix_len is_unescaped text ≡ length text → list_any (λ b. b == 10) text ≡ false
one_line [] e = refl
one_line (b ∷ bs) e = elim (cases_Bool (is_unescaped b)) [
  | inl holds ↦
      let other : b ≢ 10 = λ f. grind (arith, nat_tests) in
      rw (ne_eqb b 10 other) (one_line bs (omega (arith, rw holds at e)))
  | inr escaped ↦ absurd (omega (arith, rw escaped at e))
]

pub plain_in_quotes : (text : List ℕ) → prefix_len is_unescaped text ≡ length text → has_block_form text ≡ false
plain_in_quotes text e = rw (one_line text e) refl

-- the byte after them is escaped
pub escaped_next : (text : List ℕ) (n b : ℕ) (bs : List ℕ) → n ≡ prefix_len is_unescaped text → drop n text ≡ b ∷ bs → is_unescaped b ≡ false
escaped_next [] zero b bs e next = absurd cc
escaped_next [] (suc n) b bs e next = absurd (omega (arith, e))
escaped_next (x ∷ xs) zero b bs e next = elim (cases_Bool (is_unescaped x)) [
  | inl holds ↦ absurd (omega (arith, rw holds at e))
  | inr escaped ↦
      let same : b ≡ x = cc in
      ap is_unescaped same ∙ escaped
]
escaped_next (x ∷ xs) (suc n) b bs e next = elim (cases_Bool (is_unescaped x)) [
  | inl holds ↦
      let more : n ≡ prefix_len is_unescaped xs = omega (arith, rw holds at e) in
      escaped_next xs n b bs more next
  | inr escaped ↦ absurd (omega (arith, rw escaped at e))
]

-- and there is a character boundary after it
pub escaped_boundary : (text more : List ℕ) (n b : ℕ) → IsUtf8 more → n ≡ prefix_len is_unescaped text → more ≡ drop n text → more ≡ b ∷ drop 1 more
    → IsCharBoundary more 1
escaped_boundary text more n b u e back first =
    let small = escaped_ascii b (escaped_next text n b (drop 1 more) e (sym back ∙ first)) in
    let byte : get_or more 0 0 ≡ b = ap (λ l. get_or l 0 0) first in
    IsCharBoundary-after_ascii more 0 u (omega (arith, ap length first)) (omega (arith, byte, small))

pub first_of : (text : List ℕ) (b : ℕ) → Some b ≡ slice_get text 0 → text ≡ b ∷ drop 1 text
first_of [] b e = absurd cc
first_of (x ∷ xs) b e =
    let same : x ≡ b = cc in
    ap (λ y. y ∷ xs) same

pub none_of : (text : List ℕ) → None ≡ slice_get text 0 → text ≡ []
none_of [] e = refl
none_of (x ∷ xs) e = absurd cc

-- ---- in block form

-- a byte that begins no three quotes stays the same
stays : (b : ℕ) (s : List ℕ) → begins_quotes (b ∷ s) ≡ false → escaped_quotes (b ∷ s) ≡ b ∷ escaped_quotes s
stays b [] h = refl
stays b (c ∷ []) h = refl
stays b (c ∷ d ∷ s) h = rw h refl

-- what comes before the first three quotes stays the same
plain_before : (s : List ℕ) (i : ℕ) → i ≤ length s → ((k : ℕ) → k < i → (rest : List ℕ) → drop k s ≢ 34 ∷ 34 ∷ 34 ∷ rest) → escaped_quotes s ≡ take i s
    ++ escaped_quotes (drop i s)
plain_before s zero h none = refl
plain_before [] (suc i) h none = absurd (omega arith)
plain_before (b ∷ s) (suc i) h none =
    stays b s (no_quotes (b ∷ s) (none 0 (omega arith))) ∙ ap (λ t. b ∷ t) (plain_before s i (omega arith) (λ k l. none (suc k) (omega arith)))

pub escaped_at : (s : List ℕ) (i j : ℕ) → i ≤ length s → ((k : ℕ) → k < i → (rest : List ℕ) → drop k s ≢ 34 ∷ 34 ∷ 34 ∷ rest) → drop i s ≡ 34 ∷ 34 ∷ 34
    ∷ drop j s → escaped_quotes s ≡ take i s ++ (92 ∷ 34 ∷ 34 ∷ 34 ∷ escaped_quotes (drop j s))
escaped_at s i j h none e = plain_before s i h none ∙ ap (λ t. take i s ++ escaped_quotes t) e

pub escaped_none : (s : List ℕ) → ((k : ℕ) → k ≤ length s → (rest : List ℕ) → drop k s ≢ 34 ∷ 34 ∷ 34 ∷ rest) → escaped_quotes s ≡ s
escaped_none s none =
    plain_before s (length s) (omega arith) (λ k l. none k (omega arith))
    ∙ rw (drop_all (length s) s (omega arith), take_all (length s) s (omega arith)) (append-nil s)

-- the last byte of a line
pub ends_in_return_is : (line : List ℕ) → ends_in_return line ≡ (slice_index line (length line - 1) == 13)
ends_in_return_is [] = refl
ends_in_return_is (b ∷ []) = refl
ends_in_return_is (b ∷ c ∷ cs) =
    let later : length (b ∷ c ∷ cs) - 1 ≡ suc (length (c ∷ cs) - 1) = omega arith in
    ends_in_return_is (c ∷ cs) ∙ sym (ap (λ k. slice_index (b ∷ c ∷ cs) k == 13) later)

-- a line without quotes is written unchanged
pub unquoted : (line : List ℕ) → list_any (λ b. b == 34) line ≡ false → escaped_quotes line ≡ line
unquoted [] none = refl
unquoted (a ∷ []) none = refl
unquoted (a ∷ b ∷ []) none = refl
unquoted (a ∷ b ∷ c ∷ more) none =
    let (here, after) = or_parts (a == 34) _ none in
    rw here (ap (λ (l : List ℕ). a ∷ l) (unquoted (b ∷ c ∷ more) after))
