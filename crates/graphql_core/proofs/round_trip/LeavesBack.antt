-- Names, numbers and quoted strings as tokens of layouts: they are tokens of their kinds, and denote what was written.
use Rattle.std.specs.Char.{IsScalar, is_ascii_digit, is_ascii_hexdigit}
use Rattle.std.specs.Str.Parse.{starts_with_minus, without_leading_plus, digits_value}
use Rattle.std.proofs.Common.{◌≡◌, ◌≢◌, ◌<◌, ◌≤◌, ℕ, zero, suc, ℤ, pos, negsuc, ◌+◌, ◌-◌, ◌/◌, ◌%◌, ◌^◌, Bool, true, false, cond, ◌&&◌, ◌==◌, nat_lt, List}
use Rattle.std.proofs.Common.{[], ◌∷◌, ◌++◌, get_or, codes, refl, sym, ap, ◌∙◌, subst, inl, inr, arith, eqb-true, w64, SFits}
use Rattle.std.proofs.lemmas.Bool.{cases_eq, ltb-true, and_parts, and_from, false_from_ne_true}
use Rattle.std.proofs.lemmas.Fmt.{decimal_is_IsNumeral, decimal_by_steps}
use Rattle.std.proofs.lemmas.List.Folds.{list_all-append}
use Rattle.graphql_core.proofs.grammar.{same_spelling-true}
use Rattle.graphql_core.specs.{is_name_continue, is_delimiter, is_in, is_natural, EndsRun, IsStringBody, body_ends, body_character, body_escape, name_token}
use Rattle.graphql_core.specs.{integer_token, float_token, string_token, IsName, is_integer, NamesCharacter, Denotes, HasValue, is_listed, same_spelling}
use Rattle.graphql_core.specs.{IsFloatLiteral, shared, any, enum_class, int_of, string_of, without_ends, IsNameBut, hexadecimal_digit, unicode_escape}
use Rattle.graphql_core.specs.{quoted_byte, quoted}
use Rattle.std.proofs.lemmas.Bool.Decides.{nat_tests}
use Rattle.std.proofs.lemmas.Str.{encode_ascii}
use Rattle.graphql_core.proofs.strings.{literal_is_float, in_range, whole_exponent, in_quotes, some_unquoted, string_means}
use Rattle.graphql_core.proofs.layouts.{IsWord}
use Rattle.graphql_core.proofs.round_trip.ParsingBack.{Takes}
use Rattle.std.specs.Fmt.{decimal, signed_decimal}
use Rattle.std.specs.List.{list_all, flat_map, AllByRecursion}
use Rattle.graphql_core.specs.declared.tokenizer.token.Kind.TheVariants.{Name, IntValue, FloatValue, StringValue}
use Rattle.graphql_core.specs.strings.Strings as units
use Rattle.graphql_core.proofs.lexical.Numbers.{natural_integer}

-- ---- names

not_continue : (c : ℕ) → is_delimiter c ≡ true → is_name_continue c ≡ false
not_continue c h = grind (arith, nat_tests)

stops_name : (rest : List ℕ) → EndsRun rest → is_name_continue (get_or rest 0 0) ≡ false
stops_name [] h = refl
stops_name (c ∷ cs) h = not_continue c h

pub name_word : (n : List ℕ) → IsName n → IsWord Name n
name_word [] h rest ends = absurd h
name_word (b ∷ bs) (first, more) rest ends = name_token first more (stops_name rest ends)

pub not_listed : (n : List ℕ) (ws : List (List ℕ)) → AllByRecursion (λ w. n ≡ w → ⊥) ws → is_listed n ws ≡ false
not_listed n [] h = refl
not_listed n (w ∷ ws) (other, h) = rw (false_from_ne_true (same_spelling n w) (λ e. other (same_spelling-true n w e))) (not_listed n ws h)

pub enum_takes : (n : List ℕ) → IsNameBut (codes "true" ∷ codes "false" ∷ codes "null" ∷ []) n → Takes shared enum_class Name n
enum_takes n (is, other) p = rw (not_listed n (codes "true" ∷ codes "false" ∷ codes "null" ∷ []) other) refl

-- ---- integers

-- a digit from 1 to 9, and then digits
abbrev IsLed : List ℕ → Type 0
IsLed [] = ⊥
IsLed (b ∷ bs) = (is_in 49 57 b ≡ true) × (list_all is_ascii_digit bs ≡ true)

led_more : (ds : List ℕ) (m : ℕ) → IsLed ds → m < 10 → IsLed (ds ++ (48 + m) ∷ [])
led_more [] m h l = absurd h
led_more (b ∷ bs) m (first, others) l =
    let digit : is_ascii_digit (48 + m) ≡ true = grind (arith, nat_tests) in (
      first,
      list_all-append is_ascii_digit bs ((48 + m) ∷ [])
          ∙ and_from (list_all is_ascii_digit bs) _ others (and_from (is_ascii_digit (48 + m)) true digit refl),
    )

led_digit : (b : ℕ) → is_in 49 57 b ≡ true → is_ascii_digit b ≡ true
led_digit b h = grind (arith, nat_tests)

led_natural : (ds : List ℕ) → IsLed ds → is_natural ds ≡ true
led_natural [] h = absurd h
led_natural (b ∷ []) (first, others) = led_digit b first
led_natural (b ∷ c ∷ cs) (first, others) = and_from (is_in 49 57 b) _ first others

natural_decimal : (n : ℕ) → n < 2 ^ 64 → is_natural (decimal n) ≡ true
natural_decimal n small = (decimal_by_steps (λ m ds. (is_natural ds ≡ true) × (0 < m → IsLed ds)) one more n small).0
  where
    one : (m : ℕ) → m < 10 → (is_natural ((48 + m) ∷ []) ≡ true) × (0 < m → IsLed ((48 + m) ∷ []))
    one m l = (grind (arith, nat_tests), λ some. (grind (arith, nat_tests), refl))

    more : (m : ℕ) (ds : List ℕ) → 10 ≤ m → (is_natural ds ≡ true) × (0 < m / 10 → IsLed ds)
        → (is_natural (ds ++ (48 + m % 10) ∷ []) ≡ true) × (0 < m → IsLed (ds ++ (48 + m % 10) ∷ []))
    more m ds l (is, led) = let h = led_more ds (m % 10) (led (omega arith)) (omega arith) in (led_natural _ h, λ some. h)

-- a natural number has no sign
unsigned : (ds : List ℕ) → is_natural ds ≡ true → (starts_with_minus ds ≡ false) × (without_leading_plus ds ≡ ds)
unsigned [] h = absurd cc
unsigned (b ∷ []) h = let m : (b == 45) ≡ false = grind (arith, nat_tests) in let p : (b == 43) ≡ false = grind (arith, nat_tests) in (m, rw p refl)
unsigned (b ∷ c ∷ cs) h =
    let first = (and_parts (is_in 49 57 b) (list_all is_ascii_digit (c ∷ cs)) h).0 in
    let m : (b == 45) ≡ false = grind (arith, nat_tests) in let p : (b == 43) ≡ false = grind (arith, nat_tests) in (m, rw p refl)

natural_value : (ds : List ℕ) (n : ℕ) → is_natural ds ≡ true → digits_value 10 ds ≡ n → int_of ds ≡ pos n
natural_value ds n h e = let (m, w) = unsigned ds h in rw (m, w) (ap pos e)

pub integer_decimal : (i : ℤ) → SFits w64 i → is_integer (signed_decimal i) ≡ true
integer_decimal (pos n) fits = natural_integer (decimal n) (natural_decimal n (omega (arith, fits.sfits)))
integer_decimal (negsuc n) fits = natural_decimal (suc n) (omega (arith, fits.sfits))

pub int_decimal : (i : ℤ) → SFits w64 i → int_of (signed_decimal i) ≡ i
int_decimal (pos n) fits =
    let small : n < 2 ^ 64 = omega (arith, fits.sfits) in
    natural_value (decimal n) n (natural_decimal n small) (decimal_is_IsNumeral n small).1
int_decimal (negsuc n) fits =
    let small : suc n < 2 ^ 64 = omega (arith, fits.sfits) in
    rw (decimal_is_IsNumeral (suc n) small).1 refl

pub int_word : (i : ℤ) → SFits w64 i → IsWord IntValue (signed_decimal i)
int_word i fits rest ends = integer_token (integer_decimal i fits) ends

pub int_takes : (i : ℤ) → SFits w64 i → Takes shared (any IntValue) IntValue (signed_decimal i)
int_takes i fits p = (in_range (signed_decimal i)).1 (subst (SFits w64) (sym (int_decimal i fits)) fits)

-- ---- floats

pub float_word : (text : List ℕ) → IsFloatLiteral text → IsWord FloatValue text
float_word text h rest ends = float_token (literal_is_float text h) ends

pub float_takes : (text : List ℕ) → IsFloatLiteral text → Takes shared (any FloatValue) FloatValue text
float_takes text h p = (whole_exponent text (literal_is_float text h)).1 h

-- ---- strings in quotes

-- these bytes between quotes denote this byte
record IsUnit (unit : List ℕ) (b : ℕ) : Type 0 where
  value : Denotes unit (b ∷ [])
  body : (more : List ℕ) → IsStringBody more → IsStringBody (unit ++ more)

pick : (b : ℕ) (t : Bool) (x y : List ℕ) → (t ≡ true → IsUnit x b) → (t ≡ false → IsUnit y b) → IsUnit (cond t x y) b
pick b true x y f g = f refl
pick b false x y f g = g refl

-- a backslash and a character
escape_unit : (c b : ℕ) → c ≢ 10 → Denotes (92 ∷ c ∷ []) (b ∷ []) → IsUnit (92 ∷ c ∷ []) b
escape_unit c b other s = record { value = s; body = λ more h. body_escape other h }

-- what holds of each number below n, by a test
abbrev below : ℕ → (ℕ → Bool) → Bool
below zero f = true
below (suc n) f = f n && below n f

below_at : (n : ℕ) (f : ℕ → Bool) → below n f ≡ true → (b : ℕ) → b < n → f b ≡ true
below_at zero f h b l = absurd (omega arith)
below_at (suc n) f h b l =
    let p = and_parts (f n) (below n f) h in
    elim (cases_eq b n) [ inl e ↦ ap f e ∙ p.0 | inr other ↦ below_at n f p.1 b (omega arith) ]

-- the digits of a control character
abbrev digits_of : ℕ → List ℕ
digits_of b = 48 ∷ 48 ∷ (cond (nat_lt b 16) 48 49) ∷ hexadecimal_digit (cond (nat_lt b 16) b (b - 16)) ∷ []

abbrev control_test : ℕ → Bool
control_test b = list_all is_ascii_hexdigit (digits_of b) && (digits_value 16 (digits_of b) == b)

hex_plain : (c : ℕ) → is_ascii_hexdigit c ≡ true → (c ≢ 34) × (c ≢ 92) × (c ≢ 10)
hex_plain c h = (λ e. grind (arith, nat_tests), λ e. grind (arith, nat_tests), λ e. grind (arith, nat_tests))

hex_body : (ds : List ℕ) → list_all is_ascii_hexdigit ds ≡ true → (more : List ℕ) → IsStringBody more → IsStringBody (ds ++ more)
hex_body [] h more b = b
hex_body (c ∷ cs) h more b =
    let (here, others) = and_parts (is_ascii_hexdigit c) (list_all is_ascii_hexdigit cs) h in
    let (q, s, l) = hex_plain c here in
    body_character q s l (hex_body cs others more b)

control_scalar : (b : ℕ) → b < 32 → IsScalar b
control_scalar b l = grind (arith, nat_tests)

control_unit : (b : ℕ) → b < 32 → IsUnit (unicode_escape b) b
control_unit b l =
    let (hex, value) = and_parts (list_all is_ascii_hexdigit (digits_of b)) (digits_value 16 (digits_of b) == b) (below_at 32 control_test refl b l) in
    let names : NamesCharacter (digits_of b) b = record { four = refl; hexadecimal = hex; value = eqb-true _ _ value; exists = control_scalar b l } in
    record {
      value = subst (Denotes (unicode_escape b)) (encode_ascii b (omega arith)) (units.escaped_unicode (digits_of b) b names);
      body = λ more h. body_escape (λ e. omega arith) (hex_body (digits_of b) hex more h);
    }

plain_unit : (b : ℕ) → b ≢ 34 → b ≢ 92 → b ≢ 10 → IsUnit (b ∷ []) b
plain_unit b q s l = record { value = units.itself b s; body = λ more h. body_character q s l h }

quoted_unit : (b : ℕ) → IsUnit (quoted_byte b) b
quoted_unit b =
    pick b (b == 13) _ _ (λ e. subst (IsUnit (codes "\\r")) (sym (eqb-true b 13 e)) (escape_unit 114 13 (λ z. omega arith) units.escaped_carriage_return))
    (λ _. pick b (b == 10) _ _ (λ e. subst (IsUnit (codes "\\n")) (sym (eqb-true b 10 e)) (escape_unit 110 10 (λ z. omega arith) units.escaped_line_feed))
    (λ l. pick b (b == 9) _ _ (λ e. subst (IsUnit (codes "\\t")) (sym (eqb-true b 9 e)) (escape_unit 116 9 (λ z. omega arith) units.escaped_tab))
    (λ _. pick b (b == 34) _ _ (λ e. subst (IsUnit (92 ∷ 34 ∷ [])) (sym (eqb-true b 34 e)) (escape_unit 34 34 (λ z. omega arith) units.escaped_quote))
    (λ q. pick b (b == 92) _ _ (λ e. subst (IsUnit (92 ∷ 92 ∷ [])) (sym (eqb-true b 92 e)) (escape_unit 92 92 (λ z. omega arith) units.escaped_backslash))
    (λ s. pick b (nat_lt b 32) _ _ (λ e. control_unit b (ltb-true b 32 e))
    (λ _. plain_unit b (λ z. grind (arith, nat_tests)) (λ z. grind (arith, nat_tests)) (λ z. grind (arith, nat_tests))))))))

quoted_body : (text : List ℕ) → IsStringBody (flat_map quoted_byte text)
quoted_body [] = body_ends
quoted_body (b ∷ bs) = (quoted_unit b).body _ (quoted_body bs)

quoted_value : (text : List ℕ) → HasValue (flat_map quoted_byte text) text
quoted_value [] = units.no_units
quoted_value (b ∷ bs) = units.unit_then (quoted_byte b) (b ∷ []) _ bs (quoted_unit b).value (quoted_value bs)

no_quote : (rest : List ℕ) → EndsRun rest → get_or rest 0 0 ≢ 34
no_quote [] h e = omega arith
no_quote (c ∷ cs) h e = grind (arith, nat_tests)

pub quoted_word : (text : List ℕ) → IsWord StringValue (quoted text)
quoted_word text rest ends = string_token (flat_map quoted_byte text) (quoted_body text) (λ e. no_quote rest ends)

between : (text : List ℕ) → without_ends 1 (quoted text) ≡ flat_map quoted_byte text
between text = in_quotes (quoted text) (flat_map quoted_byte text) refl

pub quoted_takes : (text : List ℕ) → Takes shared (any StringValue) StringValue (quoted text)
quoted_takes text p = rw (between text) (some_unquoted (flat_map quoted_byte text) text (quoted_value text))

pub quoted_means : (text : List ℕ) → string_of (quoted text) ≡ text
quoted_means text = sym (string_means (quoted text) text (subst (λ (b : List ℕ). HasValue b text) (sym (between text)) (quoted_value text)))
