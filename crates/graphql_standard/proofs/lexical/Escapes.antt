-- Escapes: what begins with one, and that an input begins with at most one.
use Rattle.std.specs.Char.{encode_utf8, is_ascii_hexdigit, IsScalar}
use Rattle.std.specs.List.{list_all}
use Rattle.std.specs.Option.{IfNone, IfSome}
use Rattle.std.specs.Result.{result_ok}
use Rattle.std.specs.Str.{IsUtf8, IsCharBoundary}
use Rattle.std.specs.Str.Parse.{ParsesUnsigned, without_leading_plus, digits_value}
use Rattle.std.proofs.Common.{◌≡◌, ◌≢◌, ℕ, zero, suc, ◌<◌, ◌≤◌, ◌^◌, ◌-◌, Bool, true, false, ◌||◌, ◌==◌, List, [], ◌∷◌, ◌++◌, length, get_or, take, drop, Option, Some, Bor}
use Rattle.std.proofs.Common.{None, Result, Ok, Err, refl, sym, ap, ◌∙◌, subst, inl, inr, arith, append_assoc, length-append}
use Rattle.std.proofs.lemmas.Bool.{and_parts, cases_lt}
use Rattle.std.proofs.lemmas.Bool.Decides.{nat_tests}
use Rattle.std.proofs.lemmas.List.{take_at, drop_at, get_or-append_right}
use Rattle.std.proofs.lemmas.Str.{IsCharBoundary-after_ascii, encode_ascii, char_from_byte}
use Rattle.std.proofs.lemmas.Str.Parse.{without_leading_plus_none}
use Rattle.graphql_core.specs.strings.Strings.{NamesCharacter, Denotes, itself, escaped_quote, escaped_backslash, escaped_slash, escaped_backspace}
use Rattle.graphql_core.specs.strings.Strings.{escaped_form_feed, escaped_line_feed, escaped_carriage_return, escaped_tab, escaped_unicode}
use Rattle.graphql_core.proofs.strings.Escapes.{all_digits, four_digits}
use Rattle.graphql_standard.specs.lexical.Strings.{IsHexadecimal, IsFourDigits, is_leading, is_trailing, IsEscape, plain_escape, braced_escape, paired_escape}
use Rattle.graphql_standard.specs.steps.Escapes.{BeginsEscape, BeginsNoEscape, BeginsDigits, BeginsNoDigits, BeginsPair, BeginsNoPair}

-- ---- hexadecimal digits

no_plus_digit : (c : ℕ) → is_ascii_hexdigit c ≡ true → c ≢ 43
no_plus_digit c h e = grind (arith, nat_tests)

digit_small : (c : ℕ) → is_ascii_hexdigit c ≡ true → c < 128
digit_small c h = grind (arith, nat_tests)

no_plus : (ds : List ℕ) → list_all is_ascii_hexdigit ds ≡ true → without_leading_plus ds ≡ ds
no_plus [] h = refl
no_plus (c ∷ cs) h = without_leading_plus_none (c ∷ cs) (no_plus_digit c (and_parts (is_ascii_hexdigit c) (list_all is_ascii_hexdigit cs) h).0)

some_digit : (ds : List ℕ) → ds ≢ [] → 0 < length ds
some_digit [] h = absurd (h refl)
some_digit (d ∷ ds) h = omega arith

-- what `from_str_radix` returns for hexadecimal digits
pub none_from_parsed : {E : Type 0} (ds : List ℕ) (o : Option ℕ) (r : Result ℕ E) → list_all is_ascii_hexdigit ds ≡ true → o ≡ result_ok r
    → ParsesUnsigned 32 16 ds r → IfNone o ((n : ℕ) → ds ≢ [] → IsHexadecimal ds n → 2 ^ 32 ≤ n)
none_from_parsed ds o (Ok x) h e p = rw e tt
none_from_parsed ds o (Err x) h e p = rw e (λ n some d.
    elim (cases_lt n (2 ^ 32)) [
      | inl small ↦ absurd (p (rw (no_plus ds h) ((some_digit ds some, all_digits ds h), rw d.value_is small)))
      | inr large ↦ large
    ])

-- four digits, and what comes after them
pub boundary_after_digits : (text digits after : List ℕ) (value : ℕ) → IsUtf8 text → IsFourDigits digits value → text ≡ digits ++ after → IsCharBoundary text 4
boundary_after_digits text [] after value u d e = let n = d.four in absurd (omega arith)
boundary_after_digits text (p ∷ []) after value u d e = let n = d.four in absurd (omega arith)
boundary_after_digits text (p ∷ q ∷ []) after value u d e = let n = d.four in absurd (omega arith)
boundary_after_digits text (p ∷ q ∷ r ∷ []) after value u d e = let n = d.four in absurd (omega arith)
boundary_after_digits text (p ∷ q ∷ r ∷ s ∷ more) after value u d e =
    let all = d.is.hexadecimal in
    let (_, q_on) = and_parts (is_ascii_hexdigit p) (list_all is_ascii_hexdigit (q ∷ r ∷ s ∷ more)) all in
    let (_, r_on) = and_parts (is_ascii_hexdigit q) (list_all is_ascii_hexdigit (r ∷ s ∷ more)) q_on in
    let (_, s_on) = and_parts (is_ascii_hexdigit r) (list_all is_ascii_hexdigit (s ∷ more)) r_on in
    let small = digit_small s (and_parts (is_ascii_hexdigit s) (list_all is_ascii_hexdigit more) s_on).0 in
    let at : get_or text 3 0 ≡ s = ap (λ t. get_or t 3 0) e in
    let long = ap length e in
    IsCharBoundary-after_ascii text 3 u (omega arith) (omega (arith, small, at))

pub four_taken : (text digits after : List ℕ) (value : ℕ) → IsFourDigits digits value → text ≡ digits ++ after → (take 4 text ≡ digits) × (drop 4 text ≡ after)
four_taken text digits after value d e = (ap (take 4) e ∙ take_at digits after 4 d.four, ap (drop 4) e ∙ drop_at digits after 4 d.four)

-- two groups of four digits at the front of the same text
pub four_same : (u r w x : List ℕ) (c d : ℕ) → IsFourDigits u c → IsFourDigits w d → u ++ r ≡ w ++ x → (c ≡ d) × (r ≡ x)
four_same u r w x c d m n e =
    let (digits, rest) = four_taken (u ++ r) w x d n e in
    let (others, more) = four_taken (u ++ r) u r c m refl in
    (sym m.is.value_is ∙ ap (digits_value 16) (sym others ∙ digits) ∙ n.is.value_is, sym more ∙ rest)

pub names_four : (digits : List ℕ) (c : ℕ) → NamesCharacter digits c → IsFourDigits digits c
names_four digits c n = record { four = n.four; is = record { hexadecimal = n.hexadecimal; value_is = n.value } }

-- no digit is a brace
no_brace : (u r s : List ℕ) (v : ℕ) → IsFourDigits u v → u ++ r ≡ 123 ∷ s → ⊥
no_brace [] r s v d e = let n = d.four in absurd (omega arith)
no_brace (b ∷ u) r s v d e =
    let first : b ≡ 123 = cc in
    let h = (and_parts (is_ascii_hexdigit b) (list_all is_ascii_hexdigit u) d.is.hexadecimal).0 in
    grind (arith, nat_tests)

-- digits before the first closing brace
closing_brace : (b : ℕ) → is_ascii_hexdigit b ≡ true → b ≢ 125
closing_brace b h e = grind (arith, nat_tests)

pub digits_no_brace : (ds : List ℕ) → list_all is_ascii_hexdigit ds ≡ true → (i : ℕ) → i < length ds → get_or ds i 0 ≢ 125
digits_no_brace [] h i within = absurd (omega arith)
digits_no_brace (d ∷ ds) h zero within = closing_brace d (and_parts (is_ascii_hexdigit d) (list_all is_ascii_hexdigit ds) h).0
digits_no_brace (d ∷ ds) h (suc i) within =
    digits_no_brace ds (and_parts (is_ascii_hexdigit d) (list_all is_ascii_hexdigit ds) h).1 i (omega arith)

pub same_before : (xs ys r s : List ℕ) → ((i : ℕ) → i < length xs → get_or xs i 0 ≢ 125) → ((i : ℕ) → i < length ys → get_or ys i 0 ≢ 125)
    → xs ++ 125 ∷ r ≡ ys ++ 125 ∷ s → (xs ≡ ys) × (r ≡ s)
same_before [] [] r s f g e = (refl, cc)
same_before [] (y ∷ ys) r s f g e = let first : 125 ≡ y = cc in absurd (g 0 (omega arith) (sym first))
same_before (x ∷ xs) [] r s f g e = let first : x ≡ 125 = cc in absurd (f 0 (omega arith) first)
same_before (x ∷ xs) (y ∷ ys) r s f g e =
    let first : x ≡ y = cc in
    let more : xs ++ 125 ∷ r ≡ ys ++ 125 ∷ s = cc in
    let (front, rest) = same_before xs ys r s (λ i h. f (suc i) (omega arith)) (λ i h. g (suc i) (omega arith)) more in
    (rw (first, front) refl, rest)

-- ---- the kinds of escapes

abbrev is_letter : ℕ → Bool
is_letter b = b == 34 || b == 92 || b == 47 || b == 98 || b == 102 || b == 110 || b == 114 || b == 116

data Kinds (e : List ℕ) (c : ℕ) : Type 0 where
  letter : (b : ℕ) → is_letter b ≡ true → e ≡ b ∷ [] → Kinds e c
  four : (digits : List ℕ) (d : ℕ) → NamesCharacter digits d → e ≡ 117 ∷ digits → Kinds e c
  braced : (digits : List ℕ) → digits ≢ [] → IsHexadecimal digits c → IsScalar c → e ≡ 117 ∷ 123 ∷ (digits ++ 125 ∷ []) → Kinds e c
  surrogates : (leading trailing : List ℕ) (l t : ℕ) → IsFourDigits leading l → is_leading l ≡ true → IsFourDigits trailing t → is_trailing t ≡ true
      → e ≡ 117 ∷ (leading ++ 92 ∷ 117 ∷ trailing) → Kinds e c

rest_of : (b : ℕ) (u e : List ℕ) → b ∷ u ≡ 92 ∷ e → e ≡ u
rest_of b u e h = cc

plain_kind : {u v : List ℕ} → Denotes u v → (e : List ℕ) (c : ℕ) → u ≡ 92 ∷ e → Kinds e c
plain_kind (itself b h) e c is = let first : b ≡ 92 = cc in absurd (h first)
plain_kind escaped_quote e c is = letter 34 refl (rest_of 92 (34 ∷ []) e is)
plain_kind escaped_backslash e c is = letter 92 refl (rest_of 92 (92 ∷ []) e is)
plain_kind escaped_slash e c is = letter 47 refl (rest_of 92 (47 ∷ []) e is)
plain_kind escaped_backspace e c is = letter 98 refl (rest_of 92 (98 ∷ []) e is)
plain_kind escaped_form_feed e c is = letter 102 refl (rest_of 92 (102 ∷ []) e is)
plain_kind escaped_line_feed e c is = letter 110 refl (rest_of 92 (110 ∷ []) e is)
plain_kind escaped_carriage_return e c is = letter 114 refl (rest_of 92 (114 ∷ []) e is)
plain_kind escaped_tab e c is = letter 116 refl (rest_of 92 (116 ∷ []) e is)
plain_kind (escaped_unicode digits d n) e c is = four digits d n (rest_of 92 (117 ∷ digits) e is)

kind_of : {e : List ℕ} {c : ℕ} → IsEscape e c → Kinds e c
kind_of (plain_escape {escape} {c} s) = plain_kind s escape c refl
kind_of (braced_escape digits some h scalar) = braced digits some h scalar refl
kind_of (paired_escape leading trailing {l} {t} m hl n ht) = surrogates leading trailing l t m hl n ht refl

-- ---- four digits

four_fit : (ds : List ℕ) (n : ℕ) → IsFourDigits ds n → n < 65536
four_fit ds n d =
    let small = four_digits ds d.four d.is.hexadecimal in
    let same = d.is.value_is in
    omega (arith, small, same)

some_four : (ds : List ℕ) (n : ℕ) → IsFourDigits ds n → ds ≢ []
some_four ds n d e = let none = ap length e in let some = d.four in omega (arith, none, some)

-- no four digits are at the front, if the first four bytes have no value in 32 bits
pub too_large : (text digits after first : List ℕ) (value : ℕ) → IsFourDigits digits value → text ≡ digits ++ after → first ≡ take 4 text
    → ((n : ℕ) → first ≢ [] → IsHexadecimal first n → 2 ^ 32 ≤ n) → ⊥
too_large text digits after first value d e is none =
    let same : first ≡ digits = is ∙ (four_taken text digits after value d e).0 in
    let small = four_fit digits value d in
    let large = none value (λ h. some_four digits value d (sym same ∙ h)) (subst (λ ds. IsHexadecimal ds value) (sym same) d.is) in
    omega (arith, small, large)

-- ---- escapes in braces

letter_no_u : (b : ℕ) → is_letter b ≡ true → b ≢ 117
letter_no_u b h e = grind (arith, nat_tests)

-- after `u`
after_u : (text more e after : List ℕ) → text ≡ 117 ∷ more → text ≡ e ++ after → (parts : List ℕ) → e ≡ 117 ∷ parts → more ≡ parts ++ after
after_u text more e after f at parts is = ap (drop 1) (sym f ∙ at ∙ ap (λ k. k ++ after) is)

no_letter_u : (text more e after : List ℕ) → text ≡ 117 ∷ more → text ≡ e ++ after → (b : ℕ) → is_letter b ≡ true → e ≡ b ∷ [] → ⊥
no_letter_u text more e after f at b h is =
    let first : 117 ∷ more ≡ b ∷ after = sym f ∙ at ∙ ap (λ k. k ++ after) is in
    let same : b ≡ 117 = cc in
    letter_no_u b h same

-- an escape that begins with `u` and a brace
record InBraces (text after : List ℕ) (c : ℕ) : Type 0 where
  digits : List ℕ
  some : digits ≢ []
  hexadecimal : IsHexadecimal digits c
  scalar : IsScalar c
  is : text ≡ digits ++ 125 ∷ after

in_braces : (text e after : List ℕ) (c : ℕ) → Kinds e c → 117 ∷ 123 ∷ text ≡ e ++ after → InBraces text after c
in_braces text e after c (letter b h is) at = absurd (no_letter_u _ (123 ∷ text) e after refl at b h is)
in_braces text e after c (four digits d n is) at =
    absurd (no_brace digits after text d (names_four digits d n) (sym (after_u _ (123 ∷ text) e after refl at digits is)))
in_braces text e after c (braced digits some h scalar is) at =
    let rest = after_u _ (123 ∷ text) e after refl at (123 ∷ (digits ++ 125 ∷ [])) is in
    record {
      digits = digits;
      some = some;
      hexadecimal = h;
      scalar = scalar;
      is = ap (drop 1) rest ∙ append_assoc digits (125 ∷ []) after;
    }
in_braces text e after c (surrogates leading trailing l t m hl n ht is) at =
    let rest = after_u _ (123 ∷ text) e after refl at (leading ++ 92 ∷ 117 ∷ trailing) is in
    absurd (no_brace leading ((92 ∷ 117 ∷ trailing) ++ after) text l m (sym (rest ∙ append_assoc leading (92 ∷ 117 ∷ trailing) after)))

pub no_closing_brace : (text : List ℕ) → ((i : ℕ) → i < length text → get_or text i 0 ≢ 125) → BeginsNoEscape (117 ∷ 123 ∷ text)
no_closing_brace text none e after c s at =
    let b = in_braces text e after c (kind_of s) at in
    let long = ap length b.is ∙ length-append b.digits (125 ∷ after) in
    let there : get_or text (length b.digits) 0 ≡ 125 =
    ap (λ t. get_or t (length b.digits) 0) b.is ∙ get_or-append_right b.digits (125 ∷ after) (length b.digits) (length b.digits) 0 refl (omega arith) ∙ zero_at (length b.digits) in
    none (length b.digits) (omega (arith, long)) there
  where
    zero_at : (n : ℕ) → get_or (125 ∷ after) (n - n) 0 ≡ 125
    zero_at n = let z : n - n ≡ 0 = omega arith in rw z refl

-- the digits before the first closing brace are those of the escape
digits_in_braces : (text digits after e rest : List ℕ) (c : ℕ) → text ≡ digits ++ 125 ∷ after → ((i : ℕ) → i < length digits → get_or digits i 0 ≢ 125)
    → IsEscape e c → 117 ∷ 123 ∷ text ≡ e ++ rest → (digits ≢ []) × IsHexadecimal digits c × IsScalar c × (after ≡ rest)
digits_in_braces text digits after e rest c is none s at =
    let b = in_braces text e rest c (kind_of s) at in
    let (same, more) = same_before b.digits digits rest after (digits_no_brace b.digits b.hexadecimal.hexadecimal) none (sym b.is ∙ is) in
    (λ h. b.some (same ∙ h), subst (λ ds. IsHexadecimal ds c) same b.hexadecimal, b.scalar, sym more)

scalar_small : (c : ℕ) → IsScalar c → c < 2 ^ 32
scalar_small c h = grind (arith, nat_tests)

pub too_large_in_braces : (text digits after : List ℕ) → text ≡ digits ++ 125 ∷ after → ((i : ℕ) → i < length digits → get_or digits i 0 ≢ 125)
    → ((n : ℕ) → digits ≢ [] → IsHexadecimal digits n → 2 ^ 32 ≤ n) → BeginsNoEscape (117 ∷ 123 ∷ text)
too_large_in_braces text digits after is none large e rest c s at =
    let (some, h, scalar, _) = digits_in_braces text digits after e rest c is none s at in
    let small = scalar_small c scalar in
    let least = large c some h in
    omega (arith, small, least)

pub no_character_in_braces : (text digits after : List ℕ) (n : ℕ) → text ≡ digits ++ 125 ∷ after → ((i : ℕ) → i < length digits → get_or digits i 0 ≢ 125)
    → IsHexadecimal digits n → (IsScalar n → ⊥) → BeginsNoEscape (117 ∷ 123 ∷ text)
no_character_in_braces text digits after n is none h other e rest c s at =
    let (some, k, scalar, _) = digits_in_braces text digits after e rest c is none s at in
    other (subst IsScalar (sym k.value_is ∙ h.value_is) scalar)

pub braced_begins : (text digits after : List ℕ) (n : ℕ) → text ≡ digits ++ 125 ∷ after → digits ≢ [] → IsHexadecimal digits n → IsScalar n
    → BeginsEscape (117 ∷ 123 ∷ text) n after
braced_begins text digits after n is some h scalar = (
  117 ∷ 123 ∷ (digits ++ 125 ∷ []),
  braced_escape digits some h scalar,
  ap (λ t. 117 ∷ 123 ∷ t) (is ∙ sym (append_assoc digits (125 ∷ []) after)),
)

-- ---- surrogates

leading_no_scalar : (c : ℕ) → is_leading c ≡ true → IsScalar c → ⊥
leading_no_scalar c h s = grind (arith, nat_tests)

-- an escape of `u` and four digits that name a character, or are a leading surrogate before an escape of a trailing one
pub names_begins : (text after : List ℕ) (n : ℕ) → BeginsDigits text n after → IsScalar n → BeginsEscape (117 ∷ text) n after
names_begins text after n (digits, d, is) scalar = (
  117 ∷ digits,
  plain_escape (escaped_unicode digits n (record { four = d.four; hexadecimal = d.is.hexadecimal; value = d.is.value_is; exists = scalar })),
  ap (λ t. 117 ∷ t) is,
)

pub pair_begins : (text between : List ℕ) (l : ℕ) (o : Option (ℕ × Bor (List ℕ))) → BeginsDigits text l between
    → IfSome o (λ r. BeginsPair l between r.0 r.1.now) → IfSome o (λ r. BeginsEscape (117 ∷ text) r.0 r.1.now)
pair_begins text between l None d h = tt
pair_begins text between l (Some r) (leading, d, is) (trailing, t, hl, e, ht, at, value) =
    let rest : text ≡ (leading ++ 92 ∷ 117 ∷ trailing) ++ r.1.now =
    is ∙ ap (λ b. leading ++ b) at ∙ sym (append_assoc leading (92 ∷ 117 ∷ trailing) r.1.now) in (
      117 ∷ (leading ++ 92 ∷ 117 ∷ trailing),
      subst (IsEscape (117 ∷ (leading ++ 92 ∷ 117 ∷ trailing))) (sym value) (paired_escape leading trailing d hl e ht),
      ap (λ k. 117 ∷ k) rest,
    )

-- no escape begins with `u`, if neither a brace nor four digits are next
no_unicode_in : (text e after : List ℕ) (c : ℕ) → ((rest : List ℕ) → text ≢ 123 ∷ rest) → BeginsNoDigits text → Kinds e c → 117 ∷ text ≡ e ++ after → ⊥
no_unicode_in text e after c no_brace none (letter b h is) at = no_letter_u _ text e after refl at b h is
no_unicode_in text e after c no_brace none (four digits d n is) at =
    none digits after d (names_four digits d n) (after_u _ text e after refl at digits is)
no_unicode_in text e after c no_brace none (braced digits some h scalar is) at =
    no_brace ((digits ++ 125 ∷ []) ++ after) (after_u _ text e after refl at (123 ∷ (digits ++ 125 ∷ [])) is)
no_unicode_in text e after c no_brace none (surrogates leading trailing l t m hl n ht is) at =
    none leading ((92 ∷ 117 ∷ trailing) ++ after) l m
    (after_u _ text e after refl at (leading ++ 92 ∷ 117 ∷ trailing) is ∙ append_assoc leading (92 ∷ 117 ∷ trailing) after)

pub no_unicode : (text : List ℕ) → ((rest : List ℕ) → text ≢ 123 ∷ rest) → BeginsNoDigits text → BeginsNoEscape (117 ∷ text)
no_unicode text no_brace none e after c s at = no_unicode_in text e after c no_brace none (kind_of s) at

-- nor if the digits are no character and no pair
no_pair_in : (text between e after : List ℕ) (c l : ℕ) → BeginsDigits text l between → (IsScalar l → ⊥) → BeginsNoPair l between → Kinds e c
    → 117 ∷ text ≡ e ++ after → ⊥
no_pair_in text between e after c l (first, f, whole) other none (letter b h is) at = no_letter_u _ text e after refl at b h is
no_pair_in text between e after c l (first, f, whole) other none (four digits d n is) at =
    let (same, _) = four_same digits after first between d l (names_four digits d n) f (sym (after_u _ text e after refl at digits is) ∙ whole) in
    other (subst IsScalar same n.exists)
no_pair_in text between e after c l (first, f, whole) other none (braced digits some h scalar is) at =
    no_brace first between ((digits ++ 125 ∷ []) ++ after) l f (sym whole ∙ after_u _ text e after refl at (123 ∷ (digits ++ 125 ∷ [])) is)
no_pair_in text between e after c l (first, f, whole) other none (surrogates leading trailing k t m hl n ht is) at =
    let rest = after_u _ text e after refl at (leading ++ 92 ∷ 117 ∷ trailing) is ∙ append_assoc leading (92 ∷ 117 ∷ trailing) after in
    let (same, more) = four_same leading ((92 ∷ 117 ∷ trailing) ++ after) first between k l m f (sym rest ∙ whole) in
    none trailing after t (subst (λ (j : ℕ). is_leading j ≡ true) same hl) n ht (sym more)

pub no_pair_result : (text between : List ℕ) (l : ℕ) (o : Option (ℕ × Bor (List ℕ))) → BeginsDigits text l between → (IsScalar l → ⊥)
    → IfNone o (BeginsNoPair l between) → IfNone o (BeginsNoEscape (117 ∷ text))
no_pair_result text between l None d other none = λ e after c s at. no_pair_in text between e after c l d other none (kind_of s) at
no_pair_result text between l (Some r) d other none = tt

-- no other four digits begin the text
pub other_digits : (text digits after rest : List ℕ) (n t : ℕ) → BeginsDigits text n rest → IsFourDigits digits t → is_trailing n ≡ false
    → is_trailing t ≡ true → text ≡ digits ++ after → ⊥
other_digits text digits after rest n t (first, f, whole) d other is at =
    let (same, _) = four_same digits after first rest t n d f (sym at ∙ whole) in
    let h = sym is ∙ ap is_trailing same ∙ other in
    cc

-- ---- all escapes

-- the first byte of an escape
record Begun (e : List ℕ) : Type 0 where
  byte : ℕ
  more : List ℕ
  is : e ≡ byte ∷ more
  starts : (is_letter byte || byte == 117) ≡ true

begun : (e : List ℕ) (c : ℕ) → Kinds e c → Begun e
begun e c (letter b h is) = record { byte = b; more = []; is = is; starts = rw h refl }
begun e c (four digits d n is) = record { byte = 117; more = digits; is = is; starts = refl }
begun e c (braced digits some h scalar is) = record { byte = 117; more = 123 ∷ (digits ++ 125 ∷ []); is = is; starts = refl }
begun e c (surrogates leading trailing l t m hl n ht is) = record { byte = 117; more = leading ++ 92 ∷ 117 ∷ trailing; is = is; starts = refl }

start_small : (b : ℕ) → (is_letter b || b == 117) ≡ true → b < 128
start_small b h = grind (arith, nat_tests)

no_start : (c : ℕ) → c ≢ 34 → c ≢ 92 → c ≢ 47 → c ≢ 98 → c ≢ 102 → c ≢ 110 → c ≢ 114 → c ≢ 116 → c ≢ 117 → (is_letter c || c == 117) ≡ true → ⊥
no_start c h1 h2 h3 h4 h5 h6 h7 h8 h9 h = grind (arith, nat_tests)

-- the first character of a text whose first byte is ASCII
char_is : (text rest others : List ℕ) (c b : ℕ) → b < 128 → text ≡ encode_utf8 c ++ rest → text ≡ b ∷ others → c ≡ b
char_is text rest others c b h e f =
    let at : get_or text 0 0 ≡ b = ap (λ t. get_or t 0 0) f in
    let long : length text ≡ length (b ∷ others) = ap length f in
    char_from_byte text rest c e (omega arith) (omega arith) ∙ at

pub no_escape_other : (text rest : List ℕ) (c : ℕ) → text ≡ encode_utf8 c ++ rest → c ≢ 34 → c ≢ 92 → c ≢ 47 → c ≢ 98 → c ≢ 102 → c ≢ 110 → c ≢ 114
    → c ≢ 116 → c ≢ 117 → BeginsNoEscape text
no_escape_other text rest c e h1 h2 h3 h4 h5 h6 h7 h8 h9 escape after d s at =
    let b = begun escape d (kind_of s) in
    let same = char_is text rest (b.more ++ after) c b.byte (start_small b.byte b.starts) e (at ∙ ap (λ k. k ++ after) b.is) in
    no_start c h1 h2 h3 h4 h5 h6 h7 h8 h9 (subst (λ (k : ℕ). (is_letter k || k == 117) ≡ true) (sym same) b.starts)

-- an escape of October 2021
pub plain_begins : (text after : List ℕ) (c : ℕ) → (escape : List ℕ) × Denotes (92 ∷ escape) (encode_utf8 c) × (text ≡ escape ++ after) → BeginsEscape text c after
plain_begins text after c (escape, s, is) = (escape, plain_escape s, is)

pub u_front : (text rest : List ℕ) → text ≡ encode_utf8 117 ++ rest → text ≡ 117 ∷ rest
u_front text rest e = e ∙ ap (λ t. t ++ rest) (encode_ascii 117 (omega arith))

-- ---- a text begins with at most one escape

letter_apart : (text e r f s : List ℕ) (b : ℕ) → text ≡ e ++ r → text ≡ f ++ s → is_letter b ≡ true → e ≡ b ∷ [] → (parts : List ℕ) → f ≡ 117 ∷ parts → ⊥
letter_apart text e r f s b at to h is parts u = no_letter_u text (parts ++ s) e r (to ∙ ap (λ k. k ++ s) u) at b h is

-- what is after `u` in two escapes
both_u : (text e r f s p q : List ℕ) → text ≡ e ++ r → text ≡ f ++ s → e ≡ 117 ∷ p → f ≡ 117 ∷ q → p ++ r ≡ q ++ s
both_u text e r f s p q at to is us = ap (drop 1) (ap (λ k. k ++ r) (sym is) ∙ sym at ∙ to ∙ ap (λ k. k ++ s) us)

four_apart : (d l : ℕ) (digits leading trailing r s : List ℕ) → NamesCharacter digits d → IsFourDigits leading l → is_leading l ≡ true
    → digits ++ r ≡ (leading ++ 92 ∷ 117 ∷ trailing) ++ s → ⊥
four_apart d l digits leading trailing r s n m h e =
    let (same, _) = four_same digits r leading ((92 ∷ 117 ∷ trailing) ++ s) d l (names_four digits d n) m (e ∙ append_assoc leading (92 ∷ 117 ∷ trailing) s) in
    leading_no_scalar l h (subst IsScalar same n.exists)

brace_apart : (digits leading trailing r s : List ℕ) (l : ℕ) → IsFourDigits leading l
    → (123 ∷ (digits ++ 125 ∷ [])) ++ r ≡ (leading ++ 92 ∷ 117 ∷ trailing) ++ s → ⊥
brace_apart digits leading trailing r s l m e =
    no_brace leading ((92 ∷ 117 ∷ trailing) ++ s) ((digits ++ 125 ∷ []) ++ r) l m (sym (append_assoc leading (92 ∷ 117 ∷ trailing) s) ∙ sym e)

braces_same : (d f r s : List ℕ) → list_all is_ascii_hexdigit d ≡ true → list_all is_ascii_hexdigit f ≡ true
    → (123 ∷ (d ++ 125 ∷ [])) ++ r ≡ (123 ∷ (f ++ 125 ∷ [])) ++ s → r ≡ s
braces_same d f r s h k e =
    (same_before d f r s (digits_no_brace d h) (digits_no_brace f k) (sym (append_assoc d (125 ∷ []) r) ∙ ap (drop 1) e ∙ append_assoc f (125 ∷ []) s)).1

pairs_same : (a b c d r s : List ℕ) (l t m n : ℕ) → IsFourDigits a l → IsFourDigits b t → IsFourDigits c m → IsFourDigits d n
    → (a ++ 92 ∷ 117 ∷ b) ++ r ≡ (c ++ 92 ∷ 117 ∷ d) ++ s → r ≡ s
pairs_same a b c d r s l t m n ha hb hc hd e =
    let (_, more) = four_same a ((92 ∷ 117 ∷ b) ++ r) c ((92 ∷ 117 ∷ d) ++ s) l m ha hc
    (sym (append_assoc a (92 ∷ 117 ∷ b) r) ∙ e ∙ append_assoc c (92 ∷ 117 ∷ d) s) in
    (four_same b r d s t n hb hd (ap (drop 2) more)).1

same_rest : (text e r f s : List ℕ) (c d : ℕ) → text ≡ e ++ r → text ≡ f ++ s → Kinds e c → Kinds f d → r ≡ s
same_rest text e r f s c d at to (letter b h is) (letter a k us) =
    let same : b ∷ r ≡ a ∷ s = ap (λ k. k ++ r) (sym is) ∙ sym at ∙ to ∙ ap (λ k. k ++ s) us in cc
same_rest text e r f s c d at to (letter b h is) (four ds n k us) = absurd (letter_apart text e r f s b at to h is ds us)
same_rest text e r f s c d at to (letter b h is) (braced ds some k x us) = absurd (letter_apart text e r f s b at to h is (123 ∷ (ds ++ 125 ∷ [])) us)
same_rest text e r f s c d at to (letter b h is) (surrogates p q l t m hl n ht us) =
    absurd (letter_apart text e r f s b at to h is (p ++ 92 ∷ 117 ∷ q) us)
same_rest text e r f s c d at to (four ds n k us) (letter b h is) = absurd (letter_apart text f s e r b to at h is ds us)
same_rest text e r f s c d at to (braced ds some k x us) (letter b h is) = absurd (letter_apart text f s e r b to at h is (123 ∷ (ds ++ 125 ∷ [])) us)
same_rest text e r f s c d at to (surrogates p q l t m hl n ht us) (letter b h is) =
    absurd (letter_apart text f s e r b to at h is (p ++ 92 ∷ 117 ∷ q) us)
same_rest text e r f s c d at to (four ds n k is) (four gs m j us) =
    (four_same ds r gs s n m (names_four ds n k) (names_four gs m j) (both_u text e r f s ds gs at to is us)).1
same_rest text e r f s c d at to (four ds n k is) (braced gs some j x us) =
    absurd (no_brace ds r ((gs ++ 125 ∷ []) ++ s) n (names_four ds n k) (both_u text e r f s ds (123 ∷ (gs ++ 125 ∷ [])) at to is us))
same_rest text e r f s c d at to (four ds n k is) (surrogates p q l t m hl o ht us) =
    absurd (four_apart n l ds p q r s k m hl (both_u text e r f s ds (p ++ 92 ∷ 117 ∷ q) at to is us))
same_rest text e r f s c d at to (braced gs some j x is) (four ds n k us) =
    absurd (no_brace ds s ((gs ++ 125 ∷ []) ++ r) n (names_four ds n k) (both_u text f s e r ds (123 ∷ (gs ++ 125 ∷ [])) to at us is))
same_rest text e r f s c d at to (braced ds some k x is) (braced gs some' j y us) =
    braces_same ds gs r s k.hexadecimal j.hexadecimal (both_u text e r f s (123 ∷ (ds ++ 125 ∷ [])) (123 ∷ (gs ++ 125 ∷ [])) at to is us)
same_rest text e r f s c d at to (braced ds some k x is) (surrogates p q l t m hl o ht us) =
    absurd (brace_apart ds p q r s l m (both_u text e r f s (123 ∷ (ds ++ 125 ∷ [])) (p ++ 92 ∷ 117 ∷ q) at to is us))
same_rest text e r f s c d at to (surrogates p q l t m hl o ht is) (four ds n k us) =
    absurd (four_apart n l ds p q s r k m hl (both_u text f s e r ds (p ++ 92 ∷ 117 ∷ q) to at us is))
same_rest text e r f s c d at to (surrogates p q l t m hl o ht is) (braced ds some k x us) =
    absurd (brace_apart ds p q s r l m (both_u text f s e r (123 ∷ (ds ++ 125 ∷ [])) (p ++ 92 ∷ 117 ∷ q) to at us is))
same_rest text e r f s c d at to (surrogates p q l t m hl o ht is) (surrogates v w x y n hx z hy us) =
    pairs_same p q v w r s l t x y m o n z (both_u text e r f s (p ++ 92 ∷ 117 ∷ q) (v ++ 92 ∷ 117 ∷ w) at to is us)

pub escape_rest : (text e r f s : List ℕ) {c d : ℕ} → IsEscape e c → IsEscape f d → text ≡ e ++ r → text ≡ f ++ s → r ≡ s
escape_rest text e r f s {c} {d} h k at to = same_rest text e r f s c d at to (kind_of h) (kind_of k)
