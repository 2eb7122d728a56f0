-- Numbers without an exponent, from left to right.
use Rattle.std.specs.Char.{is_ascii_digit}
use Rattle.std.specs.List.{list_all}
use Rattle.std.proofs.Common.{◌≡◌, ◌≢◌, ℕ, suc, ◌+◌, ◌≤◌, true, List, [], ◌∷◌, ◌++◌, length, get_or, take, drop, refl, sym, ap, ◌∙◌, subst, arith}
use Rattle.std.proofs.Common.{append_assoc, length-append}
use Rattle.std.proofs.lemmas.Bool.{and_parts}
use Rattle.std.proofs.lemmas.Bool.Decides.{nat_tests}
use Rattle.std.proofs.lemmas.List.{take_at, take-append-drop, length-take, get_or_append_left}
use Rattle.graphql_core.specs.declared.tokenizer.token.Kind.TheVariants.{IntValue, FloatValue}
use Rattle.graphql_core.specs.declared.tokenizer.piece.Nesting.TheVariants.{Unchanged}
use Rattle.graphql_core.specs.steps.Front.{Takes}
use Rattle.graphql_core.specs.{is_natural, is_integer, is_fraction, EndsRun, with_fraction, digits_len, number}
use Rattle.graphql_core.proofs.lexical.Runs.{run_of}
use Rattle.graphql_core.proofs.lexical.Numbers.{integer_front, float_front}

no_zero : (b : ℕ) → is_ascii_digit b ≡ true → b ≢ 48 → (49 ≤ b) × (b ≤ 57)
no_zero b h other = (grind (arith, nat_tests), grind (arith, nat_tests))

natural_run : (run : List ℕ) → list_all is_ascii_digit run ≡ true → length run ≢ 0 → (2 ≤ length run → get_or run 0 0 ≢ 48)
    → is_natural run ≡ true
natural_run [] all some first = absurd (some refl)
natural_run (b ∷ []) all some first = (and_parts (is_ascii_digit b) true all).0
natural_run (b ∷ c ∷ cs) all some first =
    let p = and_parts (is_ascii_digit b) (list_all is_ascii_digit (c ∷ cs)) all in
    let (low, high) = no_zero b p.0 (first (omega arith)) in
    rw p.1 (grind (arith, nat_tests))

-- the digits at the front, if there are any and no leading zero
pub natural_taken : (bs : List ℕ) (n : ℕ) → n ≡ digits_len bs → n ≢ 0 → (2 ≤ n → get_or bs 0 0 ≢ 48) → is_natural (take n bs) ≡ true
natural_taken bs n e some first =
    let r = run_of is_ascii_digit bs in
    let len : n ≡ length r.0 = e ∙ r.4 in
    let taken : take n bs ≡ r.0 = ap (take n) r.2 ∙ take_at r.0 r.1 n (sym len) in
    let run_some : length r.0 ≢ 0 = λ none. some (len ∙ none) in
    let here : get_or bs 0 0 ≡ get_or r.0 0 0 = ap (λ l. get_or l 0 0) r.2 ∙ get_or_append_left r.0 r.1 0 0 (omega arith) in
    rw taken (natural_run r.0 r.3 run_some (λ two. rw here at (first (omega arith))))

fraction_run : (b : ℕ) (run : List ℕ) → b ≡ 46 → list_all is_ascii_digit run ≡ true → length run ≢ 0 → is_fraction (b ∷ run) ≡ true
fraction_run b [] e all some = absurd (some refl)
fraction_run b (c ∷ cs) e all some = rw (e, all) refl

pub fraction_taken : (b : ℕ) (bs : List ℕ) (n : ℕ) → b ≡ 46 → n ≡ digits_len bs → n ≢ 0 → is_fraction (take (n + 1) (b ∷ bs)) ≡ true
fraction_taken b bs n e len some =
    let r = run_of is_ascii_digit bs in
    let one : suc n ≡ n + 1 = omega arith in
    let taken : take n bs ≡ r.0 = ap (take n) r.2 ∙ take_at r.0 r.1 n (sym (len ∙ r.4)) in
    subst (λ m. is_fraction (take m (b ∷ bs)) ≡ true) one
    (rw taken (fraction_run b r.0 e r.3 (λ none. some (len ∙ r.4 ∙ none))))

-- ---- in the input

pub whole_number : (bs rest : List ℕ) (n : ℕ) → n ≤ length bs → is_integer (take n bs) ≡ true → rest ≡ drop n bs → EndsRun rest
    → number bs ≡ Takes n IntValue Unchanged
whole_number bs rest n le h e ends =
    ap number (sym (take-append-drop n bs)) ∙ integer_front (take n bs) (drop n bs) h (subst EndsRun e ends)
    ∙ ap (λ m. Takes m IntValue Unchanged) (omega (arith, length-take n bs))

pub number_with_fraction : (bs rest tail : List ℕ) (n m : ℕ) → n ≤ length bs → m ≤ length rest → is_integer (take n bs) ≡ true → rest ≡ drop n bs
    → is_fraction (take m rest) ≡ true → tail ≡ drop m rest → EndsRun tail → number bs ≡ Takes (n + m) FloatValue Unchanged
number_with_fraction bs rest tail n m le lt i e f d ends =
    let after : drop n bs ≡ take m rest ++ tail = sym e ∙ sym (take-append-drop m rest) ∙ ap (λ l. take m rest ++ l) (sym d) in
    let whole : bs ≡ (take n bs ++ take m rest) ++ tail = sym (take-append-drop n bs) ∙ ap (λ l. take n bs ++ l) after
    ∙ sym (append_assoc (take n bs) (take m rest) tail) in
    ap number whole ∙ float_front (take n bs ++ take m rest) tail (with_fraction (take n bs) (take m rest) i f) ends
    ∙ ap (λ k. Takes k FloatValue Unchanged) (omega (arith, length-append (take n bs) (take m rest), length-take n bs, length-take m rest))
