-- Units of strings, found at the front of a string.
use Rattle.std.specs.Char.{digit_value, encode_utf8, is_ascii_hexdigit}
use Rattle.std.specs.List.{slice_range, list_all}
use Rattle.std.specs.Option.{SomeIff, IfNone, IfSome}
use Rattle.std.specs.Result.{result_ok}
use Rattle.std.specs.Str.{IsAscii, IsUtf8, IsCharBoundary}
use Rattle.std.specs.Str.Parse.{AllDigits, IsNumeral, ParsesUnsigned, without_leading_plus, digits_value}
use Rattle.std.proofs.Common.{◌≡◌, ◌≢◌, ℕ, suc, ◌-◌, ◌<◌, ◌^◌, ◌⊎◌, true, ◌==◌, if◌then◌else◌, List, [], ◌∷◌, ◌++◌, length, get_or, take, drop, Option, Some}
use Rattle.std.proofs.Common.{None, Result, Ok, Err, refl, sym, ap, ◌∙◌, subst, inl, inr, arith, length-append, Bor}
use Rattle.std.proofs.lemmas.Bool.{and_parts, ne_eqb}
use Rattle.std.proofs.lemmas.Bool.Decides.{nat_tests}
use Rattle.std.proofs.lemmas.Int.Digits.{digits_value-lt}
use Rattle.std.proofs.lemmas.List.{take_at, drop_at, get_or_append_left, append-nil}
use Rattle.std.proofs.lemmas.Str.{IsCharBoundary-after_ascii, encode_ascii, char_from_byte}
use Rattle.std.proofs.lemmas.Str.Ascii.{IsAscii-cons, IsAscii-nil}
use Rattle.std.proofs.lemmas.Str.Parse.{without_leading_plus_none}
use Rattle.graphql_core.specs.{NamesCharacter, Denotes, HasValue, IsInQuotes, BeginsName, BeginsNoName, BeginsEscape, BeginsNoEscape, itself, escaped_quote}
use Rattle.graphql_core.specs.{escaped_backslash, escaped_slash, escaped_backspace, escaped_form_feed, escaped_line_feed, escaped_carriage_return, escaped_tab}
use Rattle.graphql_core.specs.{escaped_unicode, no_units, unit_then}

-- ---- hexadecimal digits

digit_fits : (c : ℕ) → is_ascii_hexdigit c ≡ true → digit_value c < 16
digit_fits c h = grind (arith, nat_tests)

digit_small : (c : ℕ) → is_ascii_hexdigit c ≡ true → c < 128
digit_small c h = grind (arith, nat_tests)

digit_no_plus : (c : ℕ) → is_ascii_hexdigit c ≡ true → c ≢ 43
digit_no_plus c h e = grind (arith, nat_tests)

pub all_digits : (ds : List ℕ) → list_all is_ascii_hexdigit ds ≡ true → AllDigits 16 ds
all_digits [] h = tt
all_digits (c ∷ cs) h =
    let (here, others) = and_parts (is_ascii_hexdigit c) (list_all is_ascii_hexdigit cs) h in
    (digit_fits c here, all_digits cs others)

digits_ascii : (ds : List ℕ) → list_all is_ascii_hexdigit ds ≡ true → IsAscii ds
digits_ascii [] h = IsAscii-nil
digits_ascii (c ∷ cs) h =
    let (here, others) = and_parts (is_ascii_hexdigit c) (list_all is_ascii_hexdigit cs) h in
    IsAscii-cons c cs (digit_small c here) (digits_ascii cs others)

no_plus : (ds : List ℕ) → list_all is_ascii_hexdigit ds ≡ true → without_leading_plus ds ≡ ds
no_plus [] h = refl
no_plus (c ∷ cs) h =
    let (here, others) = and_parts (is_ascii_hexdigit c) (list_all is_ascii_hexdigit cs) h in
    without_leading_plus_none (c ∷ cs) (digit_no_plus c here)

pub four_digits : (ds : List ℕ) → length ds ≡ 4 → list_all is_ascii_hexdigit ds ≡ true → digits_value 16 ds < 65536
four_digits ds n h =
    let small = digits_value-lt 16 ds (all_digits ds h) in
    let same : 16 ^ length ds ≡ 65536 = ap (λ k. 16 ^ k) n in
    omega (arith, small, same)

numeral : (ds : List ℕ) → length ds ≡ 4 → list_all is_ascii_hexdigit ds ≡ true → IsNumeral 16 (without_leading_plus ds)
    × (digits_value 16 (without_leading_plus ds) < 2 ^ 32)
numeral ds n h = rw (no_plus ds h) ((omega arith, all_digits ds h), omega (arith, four_digits ds n h))

-- what `from_str_radix` returns for four digits
pub some_from_parsed : {E : Type 0} (ds : List ℕ) (o : Option ℕ) (r : Result ℕ E) → length ds ≡ 4 → list_all is_ascii_hexdigit ds ≡ true → o ≡ result_ok r
    → ParsesUnsigned 32 16 ds r → SomeIff o (list_all is_ascii_hexdigit ds ≡ true) (digits_value 16 ds)
some_from_parsed ds o (Ok x) n h e p = rw e (h, p.1 ∙ ap (digits_value 16) (no_plus ds h))
some_from_parsed ds o (Err x) n h e p = absurd (p (numeral ds n h))

-- there is a character boundary after the four digits of an escape
pub boundary_after_name : (text digits after : List ℕ) (c : ℕ) → IsUtf8 text → NamesCharacter digits c → text ≡ digits ++ after → IsCharBoundary text 4
boundary_after_name text digits after c u n e =
    let long = ap length e ∙ length-append digits after in
    let four = n.four in
    let at : get_or text 3 0 ≡ get_or digits 3 0 = ap (λ t. get_or t 3 0) e ∙ get_or_append_left digits after 0 3 (omega arith) in
    let small = digits_ascii digits n.hexadecimal 3 in
    IsCharBoundary-after_ascii text 3 u (omega arith) (omega (arith, small, at))

pub digits_at : (text digits after : List ℕ) → length digits ≡ 4 → text ≡ digits ++ after → take 4 text ≡ digits
digits_at text digits after n e = ap (take 4) e ∙ take_at digits after 4 n

-- ---- the unit at the front

-- the character that an escape of one letter denotes
simple : ℕ → Option ℕ
simple c =
    if c == 34 then Some 34
    else if c == 92 then Some 92
    else if c == 47 then Some 47
    else if c == 98 then Some 8
    else if c == 102 then Some 12
    else if c == 110 then Some 10
    else if c == 114 then Some 13
    else if c == 116 then Some 9
    else None

record IsPlain (unit bytes : List ℕ) : Type 0 where
  byte : ℕ
  other : byte ≢ 92
  unit_is : unit ≡ byte ∷ []
  bytes_are : bytes ≡ byte ∷ []

record IsSimple (unit bytes : List ℕ) : Type 0 where
  letter : ℕ
  value : ℕ
  letter_denotes : simple letter ≡ Some value
  unit_is : unit ≡ 92 ∷ letter ∷ []
  bytes_are : bytes ≡ value ∷ []

record IsNamed (unit bytes : List ℕ) : Type 0 where
  digits : List ℕ
  code : ℕ
  names : NamesCharacter digits code
  unit_is : unit ≡ 92 ∷ 117 ∷ digits
  bytes_are : bytes ≡ encode_utf8 code

one_letter : (c v : ℕ) → simple c ≡ Some v → IsPlain (92 ∷ c ∷ []) (v ∷ []) ⊎ (IsSimple (92 ∷ c ∷ []) (v ∷ []) ⊎ IsNamed (92 ∷ c ∷ []) (v ∷ []))
one_letter c v e = inr (inl (record { letter = c; value = v; letter_denotes = e; unit_is = refl; bytes_are = refl }))

kind_of : {unit bytes : List ℕ} → Denotes unit bytes → IsPlain unit bytes ⊎ (IsSimple unit bytes ⊎ IsNamed unit bytes)
unfolding simple
kind_of (itself b h) = inl (record { byte = b; other = h; unit_is = refl; bytes_are = refl })
kind_of escaped_quote = one_letter 34 34 refl
kind_of escaped_backslash = one_letter 92 92 refl
kind_of escaped_slash = one_letter 47 47 refl
kind_of escaped_backspace = one_letter 98 8 refl
kind_of escaped_form_feed = one_letter 102 12 refl
kind_of escaped_line_feed = one_letter 110 10 refl
kind_of escaped_carriage_return = one_letter 114 13 refl
kind_of escaped_tab = one_letter 116 9 refl
kind_of (escaped_unicode digits c n) = inr (inr (record { digits = digits; code = c; names = n; unit_is = refl; bytes_are = refl }))

simple_u : (v : ℕ) → simple 117 ≢ Some v
unfolding simple
simple_u v e = cc

no_letter : (c : ℕ) → c ≢ 34 → c ≢ 92 → c ≢ 47 → c ≢ 98 → c ≢ 102 → c ≢ 110 → c ≢ 114 → c ≢ 116 → simple c ≡ None
unfolding simple
no_letter c h1 h2 h3 h4 h5 h6 h7 h8 = rw
    (ne_eqb c 34 h1, ne_eqb c 92 h2, ne_eqb c 47 h3, ne_eqb c 98 h4, ne_eqb c 102 h5, ne_eqb c 110 h6, ne_eqb c 114 h7, ne_eqb c 116 h8) refl

-- letters are ASCII
simple_small : (c v : ℕ) → simple c ≡ Some v → c < 128
unfolding simple
simple_small c v e = grind (arith, nat_tests)

-- a string that begins with this ASCII character
ascii_front : (text rest : List ℕ) (c : ℕ) → c < 128 → text ≡ encode_utf8 c ++ rest → text ≡ c ∷ rest
ascii_front text rest c h e = e ∙ ap (λ t. t ++ rest) (encode_ascii c h)

-- an escape of one letter
pub letter_escape : (text rest : List ℕ) (c v : ℕ) → c < 128 → v < 128 → Denotes (92 ∷ c ∷ []) (v ∷ []) → text ≡ encode_utf8 c ++ rest
    → BeginsEscape text v rest
letter_escape text rest c v hc hv s e = (c ∷ [], rw (encode_ascii v hv) s, ascii_front text rest c hc e)

pub named_escape : (text rest after : List ℕ) (c : ℕ) → text ≡ encode_utf8 117 ++ rest → BeginsName rest c after → BeginsEscape text c after
named_escape text rest after c e (digits, n, h) = (117 ∷ digits, escaped_unicode digits c n, ascii_front text rest 117 (omega arith) e ∙ ap (λ t. 117 ∷ t) h)

-- the first character of a string whose first byte is ASCII
char_is : (text rest others : List ℕ) (c b : ℕ) → b < 128 → text ≡ encode_utf8 c ++ rest → text ≡ b ∷ others → c ≡ b
char_is text rest others c b h e f =
    let at : get_or text 0 0 ≡ b = ap (λ t. get_or t 0 0) f in
    let long : length text ≡ length (b ∷ others) = ap length f in
    char_from_byte text rest c e (omega arith) (omega arith) ∙ at

-- no escape begins with another character, or with `u` without four digits that name a character
no_escape_in : (text rest unit bytes after : List ℕ) (c : ℕ) → text ≡ encode_utf8 c ++ rest → simple c ≡ None → (c ≡ 117 → BeginsNoName rest) → text ≡ unit
    ++ after → IsPlain (92 ∷ unit) bytes ⊎ (IsSimple (92 ∷ unit) bytes ⊎ IsNamed (92 ∷ unit) bytes) → ⊥
no_escape_in text rest unit bytes after c e none no_name at (inl p) = let u = p.unit_is in p.other (cc)
no_escape_in text rest unit bytes after c e none no_name at (inr (inl p)) =
    let u = p.unit_is in
    let unit_is : unit ≡ p.letter ∷ [] = cc in
    let same = char_is text rest after c p.letter (simple_small p.letter p.value p.letter_denotes) e (at ∙ ap (λ k. k ++ after) unit_is) in
    let letter_denotes = sym (ap simple same) ∙ none in
    let taken = p.letter_denotes in
    cc
no_escape_in text rest unit bytes after c e none no_name at (inr (inr p)) =
    let u = p.unit_is in
    let unit_is : unit ≡ 117 ∷ p.digits = cc in
    let whole : text ≡ 117 ∷ (p.digits ++ after) = at ∙ ap (λ k. k ++ after) unit_is in
    let same : c ≡ 117 = char_is text rest (p.digits ++ after) c 117 (omega arith) e whole in
    let front = ascii_front text rest 117 (omega arith) (e ∙ ap (λ k. encode_utf8 k ++ rest) same) in
    let rest_is : rest ≡ p.digits ++ after = ap (drop 1) (sym front ∙ whole) in
    no_name same p.digits after p.code p.names rest_is

pub no_escape_named : (text rest : List ℕ) → text ≡ encode_utf8 117 ++ rest → BeginsNoName rest → BeginsNoEscape text
unfolding simple
no_escape_named text rest e no_name unit bytes after s at = no_escape_in text rest unit bytes after 117 e refl (λ _. no_name) at (kind_of s)

pub no_escape_other : (text rest : List ℕ) (c : ℕ) → text ≡ encode_utf8 c ++ rest → c ≢ 34 → c ≢ 92 → c ≢ 47 → c ≢ 98 → c ≢ 102 → c ≢ 110 → c ≢ 114
    → c ≢ 116 → c ≢ 117 → BeginsNoEscape text
no_escape_other text rest c e h1 h2 h3 h4 h5 h6 h7 h8 h9 unit bytes after s at = no_escape_in text rest unit bytes after c e
    (no_letter c h1 h2 h3 h4 h5 h6 h7 h8) (λ u. absurd (h9 u)) at (kind_of s)

-- after `u`, an escape has four digits
pub named_result : (text rest : List ℕ) (o : Option (ℕ × Bor (List ℕ))) → text ≡ encode_utf8 117 ++ rest → IfSome o (λ r. BeginsName rest r.0 r.1.now)
    → IfSome o (λ r. BeginsEscape text r.0 r.1.now)
named_result text rest None e h = tt
named_result text rest (Some r) e h = named_escape text rest r.1.now r.0 e h

pub unnamed_result : (text rest : List ℕ) (o : Option (ℕ × Bor (List ℕ))) → text ≡ encode_utf8 117 ++ rest → IfNone o (BeginsNoName rest)
    → IfNone o (BeginsNoEscape text)
unnamed_result text rest None e h = no_escape_named text rest e h
unnamed_result text rest (Some r) e h = tt

-- ---- values

Kinds : List ℕ → List ℕ → Type 0
Kinds unit bytes = IsPlain unit bytes ⊎ (IsSimple unit bytes ⊎ IsNamed unit bytes)

-- if two groups of four digits begin the same string, they name the same character
names_same : (u r w x : List ℕ) (c d : ℕ) → NamesCharacter u c → NamesCharacter w d → u ++ r ≡ w ++ x → (c ≡ d) × (r ≡ x)
names_same u r w x c d m n e =
    let digits : u ≡ w = sym (take_at u r 4 m.four) ∙ ap (take 4) e ∙ take_at w x 4 n.four in
    let first = m.value in
    let second = n.value in
    let value = ap (digits_value 16) digits in
    (cc, sym (drop_at u r 4 m.four) ∙ ap (drop 4) e ∙ drop_at w x 4 n.four)

-- two units that begin the same string denote the same
first_by : (u v r w t x : List ℕ) → u ++ r ≡ w ++ x → Kinds u v → Kinds w t → (v ≡ t) × (r ≡ x)
unfolding Kinds
first_by u v r w t x e (inl p) (inl q) =
    let h : p.byte ∷ r ≡ q.byte ∷ x = ap (λ k. k ++ r) (sym p.unit_is) ∙ e ∙ ap (λ k. k ++ x) q.unit_is in
    let first = p.bytes_are in
    let second = q.bytes_are in
    (cc, cc)
first_by u v r w t x e (inl p) (inr (inl q)) =
    let h : p.byte ∷ r ≡ 92 ∷ q.letter ∷ x = ap (λ k. k ++ r) (sym p.unit_is) ∙ e ∙ ap (λ k. k ++ x) q.unit_is in
    absurd (p.other (cc))
first_by u v r w t x e (inl p) (inr (inr q)) =
    let h : p.byte ∷ r ≡ 92 ∷ 117 ∷ (q.digits ++ x) = ap (λ k. k ++ r) (sym p.unit_is) ∙ e ∙ ap (λ k. k ++ x) q.unit_is in
    absurd (p.other (cc))
first_by u v r w t x e (inr (inl p)) (inl q) =
    let h : 92 ∷ p.letter ∷ r ≡ q.byte ∷ x = ap (λ k. k ++ r) (sym p.unit_is) ∙ e ∙ ap (λ k. k ++ x) q.unit_is in
    absurd (q.other (cc))
first_by u v r w t x e (inr (inl p)) (inr (inl q)) =
    let h : 92 ∷ p.letter ∷ r ≡ 92 ∷ q.letter ∷ x = ap (λ k. k ++ r) (sym p.unit_is) ∙ e ∙ ap (λ k. k ++ x) q.unit_is in
    let letter : p.letter ≡ q.letter = cc in
    let rest : r ≡ x = cc in
    let letter_denotes = sym p.letter_denotes ∙ ap simple letter ∙ q.letter_denotes in
    let value : p.value ≡ q.value = cc in
    (p.bytes_are ∙ ap (λ k. k ∷ []) value ∙ sym q.bytes_are, rest)
first_by u v r w t x e (inr (inl p)) (inr (inr q)) =
    let h : 92 ∷ p.letter ∷ r ≡ 92 ∷ 117 ∷ (q.digits ++ x) = ap (λ k. k ++ r) (sym p.unit_is) ∙ e ∙ ap (λ k. k ++ x) q.unit_is in
    let letter : p.letter ≡ 117 = cc in
    absurd (simple_u p.value (ap simple (sym letter) ∙ p.letter_denotes))
first_by u v r w t x e (inr (inr p)) (inl q) =
    let h : 92 ∷ 117 ∷ (p.digits ++ r) ≡ q.byte ∷ x = ap (λ k. k ++ r) (sym p.unit_is) ∙ e ∙ ap (λ k. k ++ x) q.unit_is in
    absurd (q.other (cc))
first_by u v r w t x e (inr (inr p)) (inr (inl q)) =
    let h : 92 ∷ 117 ∷ (p.digits ++ r) ≡ 92 ∷ q.letter ∷ x = ap (λ k. k ++ r) (sym p.unit_is) ∙ e ∙ ap (λ k. k ++ x) q.unit_is in
    let letter : q.letter ≡ 117 = cc in
    absurd (simple_u q.value (ap simple (sym letter) ∙ q.letter_denotes))
first_by u v r w t x e (inr (inr p)) (inr (inr q)) =
    let h : 92 ∷ 117 ∷ (p.digits ++ r) ≡ 92 ∷ 117 ∷ (q.digits ++ x) = ap (λ k. k ++ r) (sym p.unit_is) ∙ e ∙ ap (λ k. k ++ x) q.unit_is in
    let (code, rest) = names_same p.digits r q.digits x p.code q.code p.names q.names (ap (drop 2) h) in
    (p.bytes_are ∙ ap encode_utf8 code ∙ sym q.bytes_are, rest)

unit_same : {u v w t : List ℕ} (r x : List ℕ) → Denotes u v → Denotes w t → u ++ r ≡ w ++ x → (v ≡ t) × (r ≡ x)
unfolding Kinds
unit_same {u} {v} {w} {t} r x s z e = first_by u v r w t x e (kind_of s) (kind_of z)

-- a unit has a first byte
not_empty : (u v : List ℕ) → u ≡ [] → Kinds u v → ⊥
unfolding Kinds
not_empty u v e (inl p) = let h = p.unit_is in cc
not_empty u v e (inr (inl p)) = let h = p.unit_is in cc
not_empty u v e (inr (inr p)) = let h = p.unit_is in cc

empty_front : (u r : List ℕ) → u ++ r ≡ [] → u ≡ []
empty_front [] r e = refl
empty_front (b ∷ u) r e = absurd cc

empty_value : (body v : List ℕ) → HasValue body v → body ≡ [] → v ≡ []
unfolding Kinds
empty_value _ _ no_units e = refl
empty_value _ _ (unit_then unit bytes body value s h) e = absurd (not_empty unit bytes (empty_front unit body e) (kind_of s))

-- the value of a unit and of what follows begins with what the unit denotes
past_unit_of : {unit bytes : List ℕ} (rest text v : List ℕ) → Denotes unit bytes → HasValue text v → text ≡ unit ++ rest → (w : List ℕ) × (v ≡ bytes ++ w)
    × HasValue rest w
unfolding Kinds
past_unit_of {unit} {bytes} rest _ _ s no_units e = absurd (not_empty unit bytes (empty_front unit rest (sym e)) (kind_of s))
past_unit_of rest _ _ s (unit_then u b body value t h) e =
    let (same, others) = unit_same body rest t s e in
    (value, ap (λ k. k ++ value) same, subst (λ k. HasValue k value) others h)

-- a string has at most one value
pub one_value : (body v w : List ℕ) → HasValue body v → HasValue body w → v ≡ w
one_value _ _ w no_units k = sym (empty_value [] w k refl)
one_value _ _ w (unit_then unit bytes body value s h) k =
    let (others, e, z) = past_unit_of body (unit ++ body) w s k refl in
    ap (λ t. bytes ++ t) (one_value body value others h z) ∙ sym e

-- ---- runs without a backslash

pub past_plain : (p rest v : List ℕ) → ((i : ℕ) → i < length p → get_or p i 0 ≢ 92) → HasValue (p ++ rest) v → (w : List ℕ) × (v ≡ p ++ w) × HasValue rest w
past_plain [] rest v none h = (v, refl, h)
past_plain (b ∷ p) rest v none h =
    let (w, e, k) = past_unit_of (p ++ rest) (b ∷ (p ++ rest)) v (itself b (none 0 (omega arith))) h refl in
    let (x, f, z) = past_plain p rest w (λ i l. none (suc i) (omega arith)) k in
    (x, e ∙ ap (λ t. b ∷ t) f, z)

pub add_plain : (p rest w : List ℕ) → ((i : ℕ) → i < length p → get_or p i 0 ≢ 92) → HasValue rest w → HasValue (p ++ rest) (p ++ w)
add_plain [] rest w none h = h
add_plain (b ∷ p) rest w none h = unit_then (b ∷ []) (b ∷ []) (p ++ rest) (p ++ w) (itself b (none 0 (omega arith)))
    (add_plain p rest w (λ i l. none (suc i) (omega arith)) h)

pub plain_value : (p : List ℕ) → ((i : ℕ) → i < length p → get_or p i 0 ≢ 92) → HasValue p p
plain_value p none =
    let h = add_plain p [] [] none no_units in
    subst (λ k. HasValue k k) (append-nil p) h

-- ---- a run, and then an escape

pub add_escape : (p text after w : List ℕ) (c : ℕ) → ((i : ℕ) → i < length p → get_or p i 0 ≢ 92) → BeginsEscape text c after → HasValue after w
    → HasValue (p ++ (92 ∷ text)) (p ++ (encode_utf8 c ++ w))
add_escape p text after w c none (unit, s, e) h =
    add_plain p (92 ∷ text) (encode_utf8 c ++ w) none (rw e (unit_then (92 ∷ unit) (encode_utf8 c) after w s h))

pub past_escape : (p text after v : List ℕ) (c : ℕ) → ((i : ℕ) → i < length p → get_or p i 0 ≢ 92) → BeginsEscape text c after
    → HasValue (p ++ (92 ∷ text)) v → (w : List ℕ) × HasValue after w
past_escape p text after v c none (unit, s, e) h =
    let (w, _, k) = past_plain p (92 ∷ text) v none h in
    let (x, _, z) = past_unit_of after (92 ∷ text) w s k (ap (λ t. 92 ∷ t) e) in
    (x, z)

escape_of : (text v all : List ℕ) → BeginsNoEscape text → HasValue all v → all ≡ 92 ∷ text → ⊥
unfolding Kinds
escape_of text _ _ none no_units e = cc
escape_of text _ _ none (unit_then [] bytes body value s h) e = not_empty [] bytes refl (kind_of s)
escape_of text _ _ none (unit_then (b ∷ unit) bytes body value s h) e =
    let first : b ≡ 92 = cc in
    let others : unit ++ body ≡ text = cc in
    none unit bytes body (subst (λ k. Denotes (k ∷ unit) bytes) first s) (sym others)

pub no_value : (p text v : List ℕ) → ((i : ℕ) → i < length p → get_or p i 0 ≢ 92) → BeginsNoEscape text → HasValue (p ++ (92 ∷ text)) v → ⊥
no_value p text v none no_escape h =
    let (w, _, k) = past_plain p (92 ∷ text) v none h in
    escape_of text w (92 ∷ text) no_escape k refl

-- the content between the quotes
pub between : (text body : List ℕ) → IsInQuotes text body → slice_range text 1 (length text - 1) ≡ body
between text body e =
    let long = ap length e ∙ ap (λ n. suc n) (length-append body (34 ∷ [])) in
    let n : length text - 1 - 1 ≡ length body = omega arith in
    rw n (ap (λ t. take (length body) (drop 1 t)) e ∙ take_at body (34 ∷ []) (length body) refl)
