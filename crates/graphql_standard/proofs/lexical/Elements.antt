-- The lexical elements of September 2025, beside those of `graphql_core`.
use Rattle.std.specs.List.{list_all}
use Rattle.std.specs.Option.{IfNone, IfSome, MatchOption}
use Rattle.std.specs.Char.{is_ascii_digit, is_ascii_hexdigit}
use Rattle.std.proofs.Common.{◌≡◌, ◌≢◌, ℕ, Bool, true, false, ◌==◌, if◌then◌else◌, List, [], ◌∷◌, ◌++◌, length, slice_index, take, drop, Option, Some, None, refl, sym, ap, ◌∙◌, subst, inl, inr, arith}
use Rattle.std.proofs.Common.{append_assoc, length-append}
use Rattle.std.proofs.lemmas.Bool.{and_parts}
use Rattle.std.proofs.lemmas.Bool.Decides.{nat_tests}
use Rattle.std.proofs.lemmas.List.{take_at, drop_at, append-nil}
use Rattle.graphql_core.specs.declared.tokenizer.token.Kind.{Kind}
use Rattle.graphql_core.specs.declared.tokenizer.token.Kind.TheVariants.{Punctuator, Name, IntValue, FloatValue, StringValue, BlockString}
use Rattle.graphql_core.specs.declared.tokenizer.piece.Nesting.{Nesting}
use Rattle.graphql_core.specs.declared.tokenizer.element.ElementKind.{ElementKind}
use Rattle.graphql_core.specs.declared.tokenizer.element.ElementKind.TheVariants as element
use Rattle.graphql_core.specs.lexical.Elements.{element_kind}
use Rattle.graphql_core.specs.declared.tokenizer.piece.Nesting.TheVariants.{Unchanged}
use Rattle.graphql_core.specs.strings.Strings.{Denotes, itself, escaped_quote, escaped_backslash, escaped_slash, escaped_backspace}
use Rattle.graphql_core.specs.strings.Strings.{escaped_form_feed, escaped_line_feed, escaped_carriage_return, escaped_tab, escaped_unicode}
use Rattle.graphql_core.specs.{front, Meaning, Ignored, TokenOf, IsLexicalElement, BeginsNone}
use Rattle.graphql_core.specs.lexical.Lexical.{is_name_start, is_punctuator_byte, EndsRun, ignored_tab, ignored_line_feed, ignored_carriage_return, ignored_space, ignored_comma}
use Rattle.graphql_core.specs.lexical.Lexical.{ignored_byte_order_mark, comment_at_end, comment_feed, comment_return_feed, comment_return, name_token, punctuator_token}
use Rattle.graphql_core.specs.lexical.Lexical.{spread_token, integer_token, float_token, string_token, block_string_token, body_ends, body_character, body_escape}
use Rattle.graphql_core.specs.lexical.Lexical as core
use Rattle.graphql_core.specs.steps.Numbers.{starts_number}
use Rattle.graphql_core.proofs.lexical.FrontIsPiece.{ahead_of, element_at_front}
use Rattle.graphql_standard.specs.lexical.Numbers.{IsNumber, EndsNumber, int_value, float_value}
use Rattle.graphql_standard.specs.lexical.Strings.{IsEscape, plain_escape, braced_escape, paired_escape}
use Rattle.graphql_standard.specs.lexical.Strings.{source_character, escaped_character, HasStringValue, no_characters, character_then, IsStringBody}
use Rattle.graphql_standard.specs.lexical.Elements.{is_shared, IsElement, shared_element, number_element, string_element, IsEither, BeginsNoneOf, BeginsWithOneOf}
use Rattle.graphql_standard.specs.declared.tokenizer.element.Element.{Element}
use Rattle.graphql_standard.specs.steps.Spellings.{IsStandardToken, IsStandardSpelling}
use Rattle.graphql_standard.specs.steps.Numbers.{integer_len, number_front, ends_in_digit, BeginsNoNumber}
use Rattle.graphql_standard.proofs.lexical.Numbers.{number_found, found_parts, FrontNumber}
use Rattle.graphql_standard.proofs.lexical.CoreNumbers.{ends_number, number_ends, FromCore, is_number, is_bare, from_integer, from_float}

-- ---- a string of September 2025 is a string of `graphql_core`

-- bytes that denote themselves there
PlainBytes : List ℕ → Type 0
PlainBytes xs = (more : List ℕ) → core.IsStringBody more → core.IsStringBody (xs ++ more)

no_bytes : PlainBytes []
unfolding PlainBytes
no_bytes more h = h

plain_byte : (b : ℕ) (xs : List ℕ) → b ≢ 34 → b ≢ 92 → b ≢ 10 → PlainBytes xs → PlainBytes (b ∷ xs)
unfolding PlainBytes
plain_byte b xs h1 h2 h3 p more h = body_character h1 h2 h3 (p more h)

hexadecimal_plain : (b : ℕ) → is_ascii_hexdigit b ≡ true → (b ≢ 34) × (b ≢ 92) × (b ≢ 10)
hexadecimal_plain b h = (λ e. grind (arith, nat_tests), λ e. grind (arith, nat_tests), λ e. grind (arith, nat_tests))

plain_digits : (ds xs : List ℕ) → list_all is_ascii_hexdigit ds ≡ true → PlainBytes xs → PlainBytes (ds ++ xs)
plain_digits [] xs h p = p
plain_digits (d ∷ ds) xs h p =
    let (here, more) = and_parts (is_ascii_hexdigit d) (list_all is_ascii_hexdigit ds) h in
    let (h1, h2, h3) = hexadecimal_plain d here in
    plain_byte d (ds ++ xs) h1 h2 h3 (plain_digits ds xs more p)

one_escape : (b : ℕ) (xs more : List ℕ) → b ≢ 10 → PlainBytes xs → core.IsStringBody more → core.IsStringBody (92 ∷ b ∷ (xs ++ more))
unfolding PlainBytes
one_escape b xs more h p k = body_escape h (p more k)

letter_body : (b : ℕ) (escape more : List ℕ) → b ≢ 10 → 92 ∷ b ∷ [] ≡ 92 ∷ escape → core.IsStringBody more → core.IsStringBody (92 ∷ (escape ++ more))
letter_body b escape more h e k =
    let same : b ∷ [] ≡ escape = cc in
    subst (λ (l : List ℕ). core.IsStringBody (92 ∷ (l ++ more))) same (body_escape h k)

plain_escape_body : {unit bytes : List ℕ} → Denotes unit bytes → (escape more : List ℕ) → unit ≡ 92 ∷ escape → core.IsStringBody more
    → core.IsStringBody (92 ∷ (escape ++ more))
plain_escape_body (itself b h) escape more e k = let first : b ≡ 92 = cc in absurd (h first)
plain_escape_body escaped_quote escape more e k = letter_body 34 escape more (λ h. omega arith) e k
plain_escape_body escaped_backslash escape more e k = letter_body 92 escape more (λ h. omega arith) e k
plain_escape_body escaped_slash escape more e k = letter_body 47 escape more (λ h. omega arith) e k
plain_escape_body escaped_backspace escape more e k = letter_body 98 escape more (λ h. omega arith) e k
plain_escape_body escaped_form_feed escape more e k = letter_body 102 escape more (λ h. omega arith) e k
plain_escape_body escaped_line_feed escape more e k = letter_body 110 escape more (λ h. omega arith) e k
plain_escape_body escaped_carriage_return escape more e k = letter_body 114 escape more (λ h. omega arith) e k
plain_escape_body escaped_tab escape more e k = letter_body 116 escape more (λ h. omega arith) e k
plain_escape_body (escaped_unicode digits c n) escape more e k =
    let same : 117 ∷ digits ≡ escape = cc in
    subst (λ (l : List ℕ). core.IsStringBody (92 ∷ (l ++ more))) same
    (subst (λ (l : List ℕ). core.IsStringBody (92 ∷ 117 ∷ (l ++ more))) (append-nil digits)
    (one_escape 117 (digits ++ []) more (λ h. omega arith) (plain_digits digits [] n.hexadecimal no_bytes) k))

escape_body : {escape : List ℕ} {c : ℕ} → IsEscape escape c → (more : List ℕ) → core.IsStringBody more → core.IsStringBody (92 ∷ (escape ++ more))
escape_body (plain_escape {escape} s) more k = plain_escape_body s escape more refl k
escape_body (braced_escape digits some h scalar) more k =
    one_escape 117 (123 ∷ (digits ++ 125 ∷ [])) more (λ e. omega arith) (plain_byte 123 (digits ++ 125 ∷ []) (λ e. omega arith) (λ e. omega arith) (λ e. omega arith)
    (plain_digits digits (125 ∷ []) h.hexadecimal (plain_byte 125 [] (λ e. omega arith) (λ e. omega arith) (λ e. omega arith) no_bytes))) k
escape_body (paired_escape leading trailing m hl n ht) more k =
    let second : core.IsStringBody (92 ∷ 117 ∷ (trailing ++ more)) =
    subst (λ (l : List ℕ). core.IsStringBody (92 ∷ 117 ∷ (l ++ more))) (append-nil trailing)
    (one_escape 117 (trailing ++ []) more (λ e. omega arith) (plain_digits trailing [] n.is.hexadecimal no_bytes) k) in
    let first : core.IsStringBody (92 ∷ 117 ∷ (leading ++ 92 ∷ 117 ∷ (trailing ++ more))) =
    subst (λ (l : List ℕ). core.IsStringBody (92 ∷ 117 ∷ (l ++ 92 ∷ 117 ∷ (trailing ++ more)))) (append-nil leading)
    (one_escape 117 (leading ++ []) (92 ∷ 117 ∷ (trailing ++ more)) (λ e. omega arith) (plain_digits leading [] m.is.hexadecimal no_bytes) second) in
    subst (λ (l : List ℕ). core.IsStringBody (92 ∷ 117 ∷ l)) (sym (append_assoc leading (92 ∷ 117 ∷ trailing) more)) first

value_body : {body value : List ℕ} → HasStringValue body value → core.IsStringBody body
value_body no_characters = body_ends
value_body (character_then {body} (source_character h1 h2 h3 h4) v) = body_character h1 h2 h3 (value_body v)
value_body (character_then {body} (escaped_character s) v) = escape_body s body (value_body v)

pub string_body : (body : List ℕ) → IsStringBody body → core.IsStringBody body
string_body body (value, v) = value_body v

-- ---- an element of September 2025 is one of `graphql_core`, or a number

pub data InCore (bytes : List ℕ) (m : Meaning) (rest : List ℕ) : Type 0 where
  in_core : IsLexicalElement bytes m rest → InCore bytes m rest
  a_number : (k : Kind) → IsNumber k bytes → EndsNumber rest → m ≡ TokenOf k Unchanged → InCore bytes m rest

pub element_in_core : {bytes : List ℕ} {m : Meaning} {rest : List ℕ} → IsElement bytes m rest → InCore bytes m rest
element_in_core (shared_element h st) = in_core st
element_in_core (number_element {k = k} n ends) = a_number k n ends refl
element_in_core (string_element {body} h some) = in_core (string_token body (string_body body h) some)

either_in_core : {bytes : List ℕ} {m : Meaning} {rest : List ℕ} → IsEither bytes m rest → InCore bytes m rest
either_in_core (inl h) = element_in_core h
either_in_core (inr st) = in_core st

-- ---- an element of `graphql_core` is a number of September 2025, or no such number is at the front

no_minus : (b : ℕ) → starts_number b ≡ false → (b == 45) ≡ false
no_minus b h = grind (arith, nat_tests)

no_zero : (b : ℕ) → starts_number b ≡ false → (b == 48) ≡ false
no_zero b h = grind (arith, nat_tests)

no_digit : (b : ℕ) → starts_number b ≡ false → is_ascii_digit b ≡ false
no_digit b h = grind (arith, nat_tests)

no_number_front : (b : ℕ) (bs : List ℕ) → starts_number b ≡ false → number_front (b ∷ bs) ≡ None
unfolding number_front integer_len
no_number_front b bs h = rw (no_minus b h, no_zero b h, no_digit b h) refl

name_no_number : (b : ℕ) → is_name_start b ≡ true → starts_number b ≡ false
name_no_number b h = grind (arith, nat_tests)

punctuator_no_number : (b : ℕ) → is_punctuator_byte b ≡ true → starts_number b ≡ false
punctuator_no_number b h = grind (arith, nat_tests)

pub data CoreFront (bytes : List ℕ) (m : Meaning) (rest : List ℕ) : Type 0 where
  no_number : number_front (bytes ++ rest) ≡ None → CoreFront bytes m rest
  the_number : (k : Kind) → IsNumber k bytes → EndsNumber rest → m ≡ TokenOf k Unchanged → CoreFront bytes m rest

from_core : (k : Kind) (bytes rest : List ℕ) → FromCore k bytes rest → EndsRun rest → CoreFront bytes (TokenOf k Unchanged) rest
from_core k bytes rest (is_number n _) ends = the_number k n (ends_number rest ends) refl
from_core k bytes rest (is_bare _ none) ends = no_number none

pub core_front : {bytes : List ℕ} {m : Meaning} {rest : List ℕ} → IsLexicalElement bytes m rest → CoreFront bytes m rest
core_front ignored_tab = no_number (no_number_front 9 _ refl)
core_front ignored_line_feed = no_number (no_number_front 10 _ refl)
core_front ignored_carriage_return = no_number (no_number_front 13 _ refl)
core_front ignored_space = no_number (no_number_front 32 _ refl)
core_front ignored_comma = no_number (no_number_front 44 _ refl)
core_front ignored_byte_order_mark = no_number (no_number_front 239 _ refl)
core_front (comment_at_end line all) = no_number (no_number_front 35 _ refl)
core_front (comment_feed line all) = no_number (no_number_front 35 _ refl)
core_front (comment_return_feed line all) = no_number (no_number_front 35 _ refl)
core_front (comment_return line all stop) = no_number (no_number_front 35 _ refl)
core_front (name_token {b} first more stop) = no_number (no_number_front b _ (name_no_number b first))
core_front (punctuator_token {b} h) = no_number (no_number_front b _ (punctuator_no_number b h))
core_front spread_token = no_number (no_number_front 46 _ refl)
core_front (integer_token {run} {rest} h ends) = from_core IntValue run rest (from_integer run rest h) ends
core_front (float_token {run} {rest} h ends) = from_core FloatValue run rest (from_float h rest ends) ends
core_front (string_token body valid some) = no_number (no_number_front 34 _ refl)
core_front (block_string_token closes) = no_number (no_number_front 34 _ refl)

-- ---- at most one element begins an input

pub record Same (a b r s : List ℕ) (m k : Meaning) : Type 0 where
  pub bytes : a ≡ b
  pub meaning : m ≡ k
  pub rest : r ≡ s

same_ahead : (m k : Meaning) (i j : ℕ) → ahead_of m i ≡ ahead_of k j → (m ≡ k) × (i ≡ j)
same_ahead (Ignored m) (Ignored k) i j e = (cc, cc)
same_ahead (Ignored m) (TokenOf k t) i j e = absurd cc
same_ahead (TokenOf k t) (Ignored m) i j e = absurd cc
same_ahead (TokenOf k t) (TokenOf l u) i j e = (cc, cc)

-- parts of one list, of which the first have the same length
same_parts : (a b r s : List ℕ) (m k : Meaning) → a ++ r ≡ b ++ s → length a ≡ length b → m ≡ k → Same a b r s m k
same_parts a b r s m k e l same = record {
  bytes = sym (take_at a r (length a) refl) ∙ ap (take (length a)) e ∙ take_at b s (length a) (sym l);
  meaning = same;
  rest = sym (drop_at a r (length a) refl) ∙ ap (drop (length a)) e ∙ drop_at b s (length a) (sym l);
}

same_core : (a b r s : List ℕ) (m k : Meaning) → a ++ r ≡ b ++ s → IsLexicalElement a m r → IsLexicalElement b k s → Same a b r s m k
same_core a b r s m k e st su =
    let (same, l) = same_ahead m k (length a) (length b) (sym (element_at_front st) ∙ ap front e ∙ element_at_front su) in
    same_parts a b r s m k e l same

same_numbers : (a b r s : List ℕ) (m k : Meaning) (i j : Kind) → a ++ r ≡ b ++ s → IsNumber i a → EndsNumber r → m ≡ TokenOf i Unchanged
    → IsNumber j b → EndsNumber s → k ≡ TokenOf j Unchanged → Same a b r s m k
same_numbers a b r s m k i j e n ends is o stops us =
    let (l, same) = found_parts (length b) (length a) j i (sym (number_found o s stops) ∙ ap number_front (sym e) ∙ number_found n r ends) in
    same_parts a b r s m k e l (is ∙ ap (λ (x : Kind). TokenOf x Unchanged) same ∙ sym us)

turned : {a b r s : List ℕ} {m k : Meaning} → Same a b r s m k → Same b a s r k m
turned same = record { bytes = sym same.bytes; meaning = sym same.meaning; rest = sym same.rest }

same_as_number : (a b r s : List ℕ) (m k : Meaning) (i : Kind) → a ++ r ≡ b ++ s → IsNumber i a → EndsNumber r → m ≡ TokenOf i Unchanged
    → CoreFront b k s → Same a b r s m k
same_as_number a b r s m k i e n ends is (no_number none) =
    let some = sym (number_found n r ends) ∙ ap number_front e ∙ none in absurd cc
same_as_number a b r s m k i e n ends is (the_number j o stops us) = same_numbers a b r s m k i j e n ends is o stops us

pub same_in_core : (a b r s : List ℕ) (m k : Meaning) → a ++ r ≡ b ++ s → InCore a m r → InCore b k s → Same a b r s m k
same_in_core a b r s m k e (in_core st) (in_core su) = same_core a b r s m k e st su
same_in_core a b r s m k e (a_number i n ends is) (a_number j o stops us) = same_numbers a b r s m k i j e n ends is o stops us
same_in_core a b r s m k e (a_number i n ends is) (in_core su) = same_as_number a b r s m k i e n ends is (core_front su)
same_in_core a b r s m k e (in_core st) (a_number j o stops us) = turned (same_as_number b a s r k m j (sym e) o stops us (core_front st))

-- two elements of either grammar at the start of one input are the same
pub same_element : {a b r s : List ℕ} {m k : Meaning} (text : List ℕ) → text ≡ a ++ r → text ≡ b ++ s → IsEither a m r → IsEither b k s → Same a b r s m k
same_element {a} {b} {r} {s} {m} {k} text e f h g = same_in_core a b r s m k (sym e ∙ f) (either_in_core h) (either_in_core g)

-- ---- which elements of `graphql_core` are elements of September 2025

numbered : (k : Kind) (bytes rest : List ℕ) → FromCore k bytes rest → ends_in_digit bytes ≡ true → EndsNumber rest → IsElement bytes (TokenOf k Unchanged) rest
numbered k bytes rest (is_number n _) d ends = number_element n ends
numbered k bytes rest (is_bare other none) d ends = absurd cc

pub same_bodies : (xs ys : List ℕ) → 34 ∷ (xs ++ 34 ∷ []) ≡ 34 ∷ (ys ++ 34 ∷ []) → xs ≡ ys
same_bodies xs ys e =
    let inner : xs ++ 34 ∷ [] ≡ ys ++ 34 ∷ [] = ap (drop 1) e in
    let long = sym (length-append xs (34 ∷ [])) ∙ ap length inner ∙ length-append ys (34 ∷ []) in
    let l : length ys ≡ length xs = omega arith in
    sym (take_at xs (34 ∷ []) (length xs) refl) ∙ ap (take (length xs)) inner ∙ take_at ys (34 ∷ []) (length xs) l

token_standard : {bytes rest : List ℕ} {n : Nesting} (k : Kind) → IsLexicalElement bytes (TokenOf k n) rest → IsStandardToken k bytes → IsElement bytes (TokenOf k n) rest
token_standard Punctuator st h = shared_element refl st
token_standard Name st h = shared_element refl st
token_standard BlockString st h = shared_element refl st
token_standard IntValue (integer_token {run} {rest} is ends) h = numbered IntValue run rest (from_integer run rest is) h (ends_number rest ends)
token_standard FloatValue (float_token {run} {rest} is ends) h = numbered FloatValue run rest (from_float is rest ends) h (ends_number rest ends)
token_standard StringValue (string_token body valid some) (inner, is, h) = string_element (subst IsStringBody (sym (same_bodies body inner is)) h) some

pub standard_from : {bytes rest : List ℕ} (m : Meaning) (kind : ElementKind) → IsLexicalElement bytes m rest → element_kind bytes m ≡ kind → IsStandardSpelling kind bytes
    → IsElement bytes m rest
standard_from (Ignored m) kind st is h = shared_element refl st
standard_from {bytes} (TokenOf k n) kind st is h = token_standard k st (subst (λ (x : ElementKind). IsStandardSpelling x bytes) (sym is) h)

shared_spelling : (bytes : List ℕ) (m : Meaning) → is_shared m ≡ true → IsStandardSpelling (element_kind bytes m) bytes
shared_spelling bytes (Ignored m) h = ignored (slice_index bytes 0 == 35)
  where
    ignored : (b : Bool) → IsStandardSpelling (if b then element.Comment else element.Ignored) bytes
    ignored true = tt
    ignored false = tt
shared_spelling bytes (TokenOf Punctuator n) h = tt
shared_spelling bytes (TokenOf Name n) h = tt
shared_spelling bytes (TokenOf BlockString n) h = tt
shared_spelling bytes (TokenOf IntValue n) h = absurd cc
shared_spelling bytes (TokenOf FloatValue n) h = absurd cc
shared_spelling bytes (TokenOf StringValue n) h = absurd cc

number_spelling : {k : Kind} {bytes : List ℕ} → IsNumber k bytes → ends_in_digit bytes ≡ true → IsStandardToken k bytes
number_spelling (int_value h) d = d
number_spelling (float_value h) d = d

standard_spelling : {bytes : List ℕ} {m : Meaning} {rest : List ℕ} → IsElement bytes m rest → IsStandardSpelling (element_kind bytes m) bytes
standard_spelling (shared_element {bytes} {m} h st) = shared_spelling bytes m h
standard_spelling (number_element n ends) = number_spelling n (number_ends n)
standard_spelling (string_element {body} h some) = (body, refl, h)

pub other_from : (text bytes rest : List ℕ) (m : Meaning) (kind : ElementKind) → text ≡ bytes ++ rest → IsLexicalElement bytes m rest → element_kind bytes m ≡ kind
    → (IsStandardSpelling kind bytes → ⊥) → BeginsNoneOf IsElement text
other_from text bytes rest m kind e st is other b k s h f =
    let same = same_element text e f (inr st) (inl h) in
    let spelling = standard_spelling h in
    other (subst (λ (x : ElementKind). IsStandardSpelling x bytes) (ap (λ (o : Meaning). element_kind bytes o) (sym same.meaning) ∙ is)
    (subst (λ (x : List ℕ). IsStandardSpelling (element_kind x k) x) (sym same.bytes) spelling))

-- ---- the results of the tokenizer

pub none_begins : (text : List ℕ) → BeginsNone text → BeginsNoNumber text → BeginsNoneOf IsEither text
none_begins text none others bytes m rest h e = by (either_in_core h)
  where
    by : InCore bytes m rest → ⊥
    by (in_core st) = none bytes m rest st e
    by (a_number k n ends is) = others k bytes rest n ends e

pub number_result : (text : List ℕ) (o : Option Element) → BeginsNone text → IfNone o (BeginsNoNumber text)
    → IfSome o (λ e. BeginsWithOneOf IsElement text e.kind e.text.now e.rest.now)
    → MatchOption o (BeginsNoneOf IsEither text) (λ e. BeginsWithOneOf IsEither text e.kind e.text.now e.rest.now)
number_result text None none others h = none_begins text none others
number_result text (Some e) none others (m, is, el, kind) = (m, is, inl el, kind)

pub no_number_begins : (text : List ℕ) → number_front text ≡ None → BeginsNoNumber text
no_number_begins text none k number rest n ends e = let some = sym none ∙ ap number_front e ∙ number_found n rest ends in cc

pub number_begins : (text first last : List ℕ) (n : ℕ) (k : Kind) → FrontNumber text n k → first ≡ take n text → last ≡ drop n text
    → BeginsWithOneOf IsElement text (element.Token k) first last
number_begins text first last n k f is rest =
    let front = is ∙ ap (take n) f.whole ∙ take_at f.number f.rest n f.len in
    let after = rest ∙ ap (drop n) f.whole ∙ drop_at f.number f.rest n f.len in
    (TokenOf k Unchanged, rw (front, after) f.whole, rw (front, after) (number_element f.is f.ends), refl)
