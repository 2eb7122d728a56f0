-- Which integers and floats have a value, and the content between quotes.
use Rattle.std.specs.Str.Parse.{AllDigits, IsNumeral, ParsesSigned, starts_with_minus, without_leading_sign}
use Rattle.std.proofs.Common.{◌≡◌, ◌↔◌, ℕ, zero, suc, ℤ, pos, neg_ℤ, ◌-◌, ◌^◌, true, false, ◌==◌, nat_le, if◌then◌else◌, List, [], ◌∷◌, ◌++◌, length, take}
use Rattle.std.proofs.Common.{drop, Ok, Err, refl, sym, ap, ◌∙◌, subst, inl, inr, arith, length-append, w64, to_z, of_z, SFits as FitsSigned}
use Rattle.std.proofs.lemmas.Int.{to_z-of_z}
use Rattle.std.proofs.lemmas.Bool.{eqb-true, leb-true, ltb-true, le-leb, lt-ltb, and_parts, or_parts, cases_Bool, false_from_ne_true, false≢true}
use Rattle.std.proofs.lemmas.List.{take_at}
use Rattle.std.proofs.lemmas.List.Folds.{list_any-append}
use Rattle.graphql_core.specs.{is_natural, is_fraction, is_exponent, IsFloat, with_fraction, with_exponent, with_both, ClosesBlock, closing, escape, unit}
use Rattle.graphql_core.specs.{name_token, punctuator_token, IsLexicalElement, TokenOf, integer_token, block_string_token, float_token, string_token, spread_token}
use Rattle.graphql_core.specs.{is_integer, IsLexeme, is_whole_exponent, EndsFloat, fraction, exponent, both, IsFloatLiteral, IsInQuotes, IsInTripleQuotes}
use Rattle.graphql_core.specs.{Token, kind_number, int_of, is_in_range, is_exponent_indicator, after_indicator, has_whole_exponent, without_ends}
use Rattle.graphql_core.proofs.lexical.{natural_digits}
use Rattle.std.specs.Char.{is_ascii_digit}
use Rattle.graphql_core.specs.declared.tokenizer.piece.Nesting.{Nesting}
use Rattle.std.proofs.lemmas.Bool.Decides.{nat_tests}
use Rattle.std.specs.List.{list_all, list_any}
use Rattle.graphql_core.specs.declared.tokenizer.token.Kind.{Kind}
use Rattle.graphql_core.specs.declared.tokenizer.token.Kind.TheVariants.{Punctuator, Name, IntValue, FloatValue, StringValue, BlockString}
use Rattle.graphql_core.proofs.strings.FloatLiterals.{exponent_form}

-- ---- integers

negative_fits : (n : ℕ) → (nat_le n (2 ^ 63) ≡ true) ↔ FitsSigned w64 (neg_ℤ (pos n))
negative_fits zero = (λ h. record { sfits = omega arith }, λ f. refl)
negative_fits (suc n) = (λ h. record { sfits = omega (arith, leb-true (suc n) (2 ^ 63) h) }, λ f. le-leb (suc n) (2 ^ 63) (omega (arith, f.sfits)))

-- the number of a run is in range exactly if 64 bits hold it
pub in_range : (run : List ℕ) → (is_in_range run ≡ true) ↔ FitsSigned w64 (int_of run)
in_range run =
    elim (cases_Bool (starts_with_minus run)) [
      | inl h ↦ rw h (negative_fits _)
      | inr h ↦ rw h (λ e. record { sfits = ltb-true _ _ e }, λ f. lt-ltb _ _ f.sfits)
    ]

digits_fit : (ds : List ℕ) → list_all is_ascii_digit ds ≡ true → AllDigits 10 ds
digits_fit [] h = tt
digits_fit (c ∷ cs) h =
    let (here, others) = and_parts (is_ascii_digit c) (list_all is_ascii_digit cs) h in
    (grind (arith, nat_tests), digits_fit cs others)

natural_numeral : (ds : List ℕ) → is_natural ds ≡ true → IsNumeral 10 ds
natural_numeral [] h = absurd (false≢true h)
natural_numeral (c ∷ cs) h = (omega arith, digits_fit (c ∷ cs) (natural_digits (c ∷ cs) h))

-- a natural number begins with no sign
no_sign : (b : ℕ) (bs : List ℕ) → is_natural (b ∷ bs) ≡ true → (b == 45 ≡ false) × (b == 43 ≡ false)
no_sign b bs h =
    let digit = (and_parts (is_ascii_digit b) (list_all is_ascii_digit bs) (natural_digits (b ∷ bs) h)).0 in
    (grind (arith, nat_tests), grind (arith, nat_tests))

integer_numeral : (run : List ℕ) → is_integer run ≡ true → IsNumeral 10 (without_leading_sign run)
integer_numeral [] h = absurd (false≢true h)
integer_numeral (b ∷ bs) h =
    elim (cases_Bool (b == 45)) [
      | inl m ↦ rw m (natural_numeral bs (rw m at h))
      | inr m ↦
          let n : is_natural (b ∷ bs) ≡ true = rw m at h in
          rw (m, (no_sign b bs n).1) (natural_numeral (b ∷ bs) n)
    ]

-- `parse` returns an integer if it is in range
pub integer_parsed : (text run : List ℕ) (v : ℤ) → text ≡ run → is_integer run ≡ true → ParsesSigned {E = Unit {0}} w64 10 text (Ok v)
    → (is_in_range run ≡ true) × (to_z w64 (of_z w64 v) ≡ int_of run)
integer_parsed text run v e h (p, is) =
    let fits : FitsSigned w64 v = subst (FitsSigned w64) (sym is) p.1 in
    (subst (λ t. is_in_range t ≡ true) e ((in_range text).1 p.1), to_z-of_z w64 v fits ∙ is ∙ ap int_of e)

pub not_parsed : (text run : List ℕ) → text ≡ run → is_integer run ≡ true → ParsesSigned {E = Unit {0}} w64 10 text (Err tt) → is_in_range run ≡ false
not_parsed text run e h p = false_from_ne_true _
    (λ fits. p (subst (λ t. IsNumeral 10 (without_leading_sign t) × FitsSigned w64 (int_of t)) (sym e) (integer_numeral run h, (in_range run).0 fits)))

-- ---- floats

no_mark_digits : (ds : List ℕ) → list_all is_ascii_digit ds ≡ true → list_any is_exponent_indicator ds ≡ false
no_mark_digits [] h = refl
no_mark_digits (c ∷ cs) h =
    let (here, others) = and_parts (is_ascii_digit c) (list_all is_ascii_digit cs) h in
    let digit : is_exponent_indicator c ≡ false = grind (arith, nat_tests) in
    rw digit (no_mark_digits cs others)

no_mark_integer : (run : List ℕ) → is_integer run ≡ true → list_any is_exponent_indicator run ≡ false
no_mark_integer [] h = refl
no_mark_integer (b ∷ bs) h =
    elim (cases_Bool (b == 45)) [
      | inl m ↦ rw (eqb-true b 45 m) (no_mark_digits bs (natural_digits bs (rw m at h)))
      | inr m ↦ no_mark_digits (b ∷ bs) (natural_digits (b ∷ bs) (rw m at h))
    ]

no_mark_fraction : (f : List ℕ) → is_fraction f ≡ true → list_any is_exponent_indicator f ≡ false
no_mark_fraction [] h = refl
no_mark_fraction (b ∷ []) h = absurd (false≢true h)
no_mark_fraction (b ∷ c ∷ cs) h =
    let (dot, digits) = and_parts (b == 46) (list_all is_ascii_digit (c ∷ cs)) h in
    rw (eqb-true b 46 dot) (no_mark_digits (c ∷ cs) digits)

after_front : (front e : List ℕ) → list_any is_exponent_indicator front ≡ false → after_indicator (front ++ e) ≡ after_indicator e
after_front [] e h = refl
after_front (b ∷ bs) e h =
    let (here, others) = or_parts (is_exponent_indicator b) (list_any is_exponent_indicator bs) h in
    rw here (after_front bs e others)

-- a front without an exponent mark does not change the result
past_front : (front e : List ℕ) → list_any is_exponent_indicator front ≡ false → has_whole_exponent (front ++ e) ≡ has_whole_exponent e
past_front front e h = rw (list_any-append is_exponent_indicator front e, h, after_front front e h) refl

-- without a mark there is no exponent
no_exponent : (run : List ℕ) → list_any is_exponent_indicator run ≡ false → has_whole_exponent run ≡ true
no_exponent run h = rw h refl

punctuator_no_digit : (b : ℕ) → is_exponent_indicator b ≡ true → is_ascii_digit b ≡ false
punctuator_no_digit b h = grind (arith, nat_tests)

exponent_alone : (e : List ℕ) → is_exponent e ≡ true → has_whole_exponent e ≡ is_whole_exponent e
exponent_alone [] h = absurd (false≢true h)
exponent_alone (b ∷ []) h = absurd (false≢true h)
exponent_alone (b ∷ c ∷ cs) h =
    let m = (and_parts (is_exponent_indicator b) _ h).0 in
    rw (h, m, punctuator_no_digit b m) refl

-- after an integer, and also after a fraction
past_integer : (i e : List ℕ) → is_integer i ≡ true → is_exponent e ≡ true → has_whole_exponent (i ++ e) ≡ is_whole_exponent e
past_integer i e h p = past_front i e (no_mark_integer i h) ∙ exponent_alone e p

past_fraction : (i f e : List ℕ) → is_integer i ≡ true → is_fraction f ≡ true → is_exponent e ≡ true → has_whole_exponent (i ++ (f ++ e)) ≡ is_whole_exponent e
past_fraction i f e h k p = past_front i (f ++ e) (no_mark_integer i h) ∙ past_front f e (no_mark_fraction f k) ∙ exponent_alone e p

whole_literal : {run : List ℕ} → IsFloat run → has_whole_exponent run ≡ true → IsFloatLiteral run
whole_literal (with_fraction i f h k) e = (i, f, refl, h, fraction f k)
whole_literal (with_exponent i x h p) e = (i, x, refl, h, exponent x (sym (past_integer i x h p) ∙ e))
whole_literal (with_both i f x h k p) e = (i, f ++ x, refl, h, both f x k (sym (past_fraction i f x h k p) ∙ e))

literal_whole : (i e : List ℕ) → is_integer i ≡ true → EndsFloat e → has_whole_exponent (i ++ e) ≡ true
literal_whole i _ h (fraction f k) = past_front i f (no_mark_integer i h) ∙ no_exponent f (no_mark_fraction f k)
literal_whole i _ h (exponent x p) = past_integer i x h (exponent_form x p) ∙ p
literal_whole i _ h (both f x k p) = past_fraction i f x h k (exponent_form x p) ∙ p

-- the exponent of a float run is whole exactly if the run is a literal
pub whole_exponent : (run : List ℕ) → IsFloat run → (has_whole_exponent run ≡ true) ↔ IsFloatLiteral run
whole_exponent run h = (whole_literal h, λ (i, e, is, first, ends). rw is (literal_whole i e first ends))

pub literal_taken : (text run : List ℕ) → text ≡ run → IsFloat run → IsFloatLiteral text → has_whole_exponent run ≡ true
literal_taken text run e f h = (whole_exponent run f).1 (subst IsFloatLiteral e h)

pub literal_rejected : (text run : List ℕ) → text ≡ run → IsFloat run → (IsFloatLiteral text → ⊥) → has_whole_exponent run ≡ false
literal_rejected text run e f h = false_from_ne_true _ (λ whole. h (subst IsFloatLiteral (sym e) ((whole_exponent run f).0 whole)))

-- ---- quotes

pub in_quotes : (bytes body : List ℕ) → IsInQuotes bytes body → without_ends 1 bytes ≡ body
in_quotes bytes body e =
    let long = ap length e ∙ ap (λ n. suc n) (length-append body (34 ∷ [])) in
    let n : length bytes - 2 ≡ length body = omega arith in
    rw n (ap (λ t. take (length body) (drop 1 t)) e ∙ take_at body (34 ∷ []) (length body) refl)

pub in_triple_quotes : (bytes body : List ℕ) → IsInTripleQuotes bytes body → without_ends 3 bytes ≡ body
in_triple_quotes bytes body e =
    let long = ap length e in
    let sum = length-append body (34 ∷ 34 ∷ 34 ∷ []) in
    let n : length bytes - 6 ≡ length body = omega arith in
    rw n (ap (λ t. take (length body) (drop 3 t)) e ∙ take_at body (34 ∷ 34 ∷ 34 ∷ []) (length body) refl)

closing_quotes : {body : List ℕ} → ClosesBlock body → (content : List ℕ) × (body ≡ content ++ 34 ∷ 34 ∷ 34 ∷ [])
closing_quotes closing = ([], refl)
closing_quotes (escape c) = let r = closing_quotes c in (92 ∷ 34 ∷ 34 ∷ 34 ∷ r.0, ap (λ l. 92 ∷ 34 ∷ 34 ∷ 34 ∷ l) r.1)
closing_quotes (unit {b} q e c) = let r = closing_quotes c in (b ∷ r.0, ap (λ l. b ∷ l) r.1)

-- ---- how tokens are spelled

abbrev pub IsSpelledAs : Kind → List ℕ → Type 0
IsSpelledAs IntValue bytes = is_integer bytes ≡ true
IsSpelledAs FloatValue bytes = IsFloat bytes
IsSpelledAs StringValue bytes = IsInQuotes bytes (without_ends 1 bytes)
IsSpelledAs BlockString bytes = IsInTripleQuotes bytes (without_ends 3 bytes)
IsSpelledAs Punctuator bytes = Unit {0}
IsSpelledAs Name bytes = Unit {0}

pub spelled_as : {bytes : List ℕ} {k : Kind} {s : Nesting} {rest : List ℕ} → IsLexicalElement bytes (TokenOf k s) rest → IsSpelledAs k bytes
spelled_as (name_token first more stop) = tt
spelled_as (punctuator_token is) = tt
spelled_as spread_token = tt
spelled_as (integer_token run ends) = run
spelled_as (float_token run ends) = run
spelled_as {bytes} (string_token body units next) = ap (λ b. 34 ∷ (b ++ 34 ∷ [])) (sym (in_quotes bytes body refl))
spelled_as {bytes} (block_string_token closes) =
    let (content, e) = closing_quotes closes in
    let is : IsInTripleQuotes bytes content = ap (λ b. 34 ∷ 34 ∷ 34 ∷ b) e in
    is ∙ ap (λ b. 34 ∷ 34 ∷ 34 ∷ (b ++ 34 ∷ 34 ∷ 34 ∷ [])) (sym (in_triple_quotes bytes content is))

-- the kind of a number
kind_at : ℕ → Kind
kind_at n = if n == 0 then Punctuator else if n == 1 then Name else if n == 2 then IntValue else if n == 3 then FloatValue else if n == 4 then StringValue
    else BlockString

kind_back : (k : Kind) → kind_at (kind_number k) ≡ k
unfolding kind_at
kind_back Punctuator = refl
kind_back Name = refl
kind_back IntValue = refl
kind_back FloatValue = refl
kind_back StringValue = refl
kind_back BlockString = refl

-- a token of the lexical grammar is spelled as its kind requires
pub lexeme_spelled : (k : Kind) (t : Token) → t.kind ≡ kind_number k → IsLexeme t → IsSpelledAs k t.spelling
lexeme_spelled k t e (j, s, rest, is, is_element) =
    let same : j ≡ k = sym (kind_back j) ∙ ap kind_at (sym is ∙ e) ∙ kind_back k in
    subst (λ i. IsSpelledAs i t.spelling) same (spelled_as is_element)
