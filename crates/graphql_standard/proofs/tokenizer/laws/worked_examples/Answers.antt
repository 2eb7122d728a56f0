use Rattle.std.specs.Char.{is_ascii_hexdigit, encode_utf8}
use Rattle.std.specs.Str.Parse.{digits_value}
use Rattle.std.specs.List.{list_all}
use Rattle.std.proofs.lemmas.List.{append-nil}
use Rattle.std.proofs.Common.{◌≡◌, ◌≢◌, ℕ, true, List, [], ◌∷◌, ◌++◌, None, codes, refl, sym, subst, arith, zero, suc, ◌<◌, length, get_or}
use Rattle.graphql_core.specs.declared.tokenizer.token.Kind.TheVariants.{FloatValue, StringValue}
use Rattle.graphql_core.specs.declared.tokenizer.element.ElementKind.TheVariants as element
use Rattle.graphql_core.specs.declared.tokenizer.piece.Nesting.TheVariants.{Unchanged}
use Rattle.graphql_core.specs.{front, other_token, number, quoted_front, string_end}
use Rattle.graphql_core.specs.steps.Numbers.{is_float, is_unsigned, is_after_integer, is_after_dot}
use Rattle.graphql_core.specs.steps.Ahead.{ignored_front, taken}
use Rattle.graphql_core.specs.lexical.Lexical.{TokenOf, IsLexicalElement, float_token, string_token, block_string_token, closing, with_exponent, body_ends, body_character, body_escape}
use Rattle.graphql_core.specs.lexical.Lexical as core
use Rattle.graphql_core.proofs.lexical.Elements.{begins_none}
use Rattle.graphql_standard.specs.lexical.Numbers.{int_value, float_value}
use Rattle.graphql_standard.specs.lexical.Numbers as standard
use Rattle.graphql_standard.specs.lexical.Strings.{IsHexadecimal, IsFourDigits, braced_escape, paired_escape, escaped_character, no_characters, character_then, IsStringBody}
use Rattle.graphql_standard.specs.lexical.Elements.{IsElement, IsEither, BeginsNoneOf, shared_element, number_element, string_element}
use Rattle.graphql_standard.specs.examples.LexicalExamples.{in_quotes}
use Rattle.graphql_standard.specs.steps.Numbers.{number_front, integer_len, fraction_len, exponent_len}
use Rattle.graphql_standard.specs.steps.Escapes.{BeginsNoEscape, is_source_byte}
use Rattle.graphql_standard.proofs.lexical.Elements.{none_begins, no_number_begins, other_from, same_bodies, string_body}
use Rattle.graphql_standard.proofs.lexical.Escapes.{no_escape_other, no_pair_result, no_character_in_braces, digits_no_brace}
use Rattle.graphql_standard.proofs.lexical.Strings.{no_escape, past_plain, plain_body}
use Rattle.graphql_standard.proofs.tokenizer.laws.worked_examples.Goals as goal

-- no element of either grammar begins the input
none_of_either : (text : List ℕ) → ignored_front (front text) ≡ None → taken (front text) ≡ None → number_front text ≡ None → BeginsNoneOf IsEither text
none_of_either text h k n = none_begins text (begins_none text h k) (no_number_begins text n)

exponent : (integer part : List ℕ) → core.is_integer integer ≡ true → standard.is_exponent_part part ≡ true
    → IsElement (integer ++ part) (TokenOf FloatValue Unchanged) []
exponent integer part i e = number_element (float_value (standard.with_exponent integer part i e)) refl

-- a string of `graphql_core` alone
other_string : (body : List ℕ) → core.IsStringBody body → body ≢ [] → (IsStringBody body → ⊥)
    → IsLexicalElement (in_quotes body) (TokenOf StringValue Unchanged) [] × BeginsNoneOf IsElement (in_quotes body)
other_string body valid some other =
    let token : IsLexicalElement (in_quotes body) (TokenOf StringValue Unchanged) [] = string_token body valid (λ e. absurd (some e)) in (
      token,
      other_from (in_quotes body) (in_quotes body) [] (TokenOf StringValue Unchanged) (element.Token StringValue) (sym (append-nil (in_quotes body))) token refl
          (λ h. other (subst IsStringBody (sym (same_bodies body h.0 h.1)) h.2)),
    )

escape_u : {more : List ℕ} → core.IsStringBody more → core.IsStringBody (92 ∷ 117 ∷ more)
escape_u more = body_escape (λ e. omega arith) more

letters : (bs : List ℕ) → list_all is_source_byte bs ≡ true → core.IsStringBody bs
letters bs all = string_body bs (plain_body bs all)

hexadecimal : (digits : List ℕ) (n : ℕ) → list_all is_ascii_hexdigit digits ≡ true → digits_value 16 digits ≡ n → IsHexadecimal digits n
hexadecimal digits n all e = record { hexadecimal = all; value_is = e }

four : (digits : List ℕ) (n : ℕ) → length digits ≡ 4 → list_all is_ascii_hexdigit digits ≡ true → digits_value 16 digits ≡ n → IsFourDigits digits n
four digits n l all e = record { four = l; is = hexadecimal digits n all e }

leading_alone : BeginsNoEscape (codes "uD83D")
leading_alone =
    no_pair_result (codes "D83D") [] 55357 None (codes "D83D", four (codes "D83D") 55357 refl refl refl, refl) (λ h. absurd cc)
    (λ trailing after t l d h e. absurd cc)

past_the_last : BeginsNoEscape (codes "u{110000}")
past_the_last =
    no_character_in_braces (codes "110000}") (codes "110000") [] 1114112 refl (digits_no_brace (codes "110000") refl)
    (hexadecimal (codes "110000") 1114112 refl refl) (λ h. absurd cc)

unknown : BeginsNoEscape (codes "x")
unfolding encode_utf8
unknown =
    no_escape_other (codes "x") [] 120 refl (λ e. omega arith) (λ e. omega arith) (λ e. omega arith) (λ e. omega arith) (λ e. omega arith)
    (λ e. omega arith) (λ e. omega arith) (λ e. omega arith) (λ e. omega arith)

abbrev return : List ℕ
return = 13 ∷ []

no_backslash : (i : ℕ) → i < length return → get_or return i 0 ≢ 92
no_backslash zero h = λ e. omega arith
no_backslash (suc i) h = absurd (omega arith)

raw_return : IsStringBody return → ⊥
raw_return h = let all = (past_plain return [] no_backslash h).0 in cc

empty : IsStringBody []
empty = ([], no_characters)

pub returns : goal.returns
unfolding front other_token number is_float is_unsigned is_after_integer is_after_dot quoted_front string_end number_front integer_len fraction_len exponent_len encode_utf8
returns c =
    let bare : IsLexicalElement (codes "1e+") (TokenOf FloatValue Unchanged) [] = float_token (core.with_exponent (codes "1") (codes "e+") refl refl) tt in
    record {
      exponents = (exponent (codes "1") (codes "e9") refl refl, exponent (codes "0") (codes "e0") refl refl);
      neighbours = (number_element (int_value refl) refl, number_element (int_value refl) refl);
      no_numbers = (
        none_of_either (codes "01") refl refl refl,
        none_of_either (codes "1...") refl refl refl,
        none_of_either (codes "1.") refl refl refl,
        none_of_either (codes "1a") refl refl refl,
      );
      bare_exponent = (bare, other_from (codes "1e+") (codes "1e+") [] _ (element.Token FloatValue) refl bare refl (λ h. absurd cc));
      surrogates = character_then
          (escaped_character (paired_escape (codes "D83D") (codes "DE00") (four (codes "D83D") 55357 refl refl refl) refl (four (codes "DE00") 56832 refl refl refl) refl))
          no_characters;
      in_braces = (
        character_then (escaped_character (braced_escape (codes "1F600") (λ e. absurd cc) (hexadecimal (codes "1F600") 128512 refl refl) refl)) no_characters,
        character_then (escaped_character (braced_escape (codes "00000000041") (λ e. absurd cc) (hexadecimal (codes "00000000041") 65 refl refl) refl)) no_characters,
      );
      leading_alone = other_string (codes "\\uD83D") (escape_u (letters (codes "D83D") refl)) (λ e. absurd cc) (no_escape (codes "uD83D") leading_alone);
      past_the_last = other_string (codes "\\u{110000}") (escape_u (letters (codes "{110000}") refl)) (λ e. absurd cc) (no_escape (codes "u{110000}") past_the_last);
      unknown_escape = other_string (codes "\\x") (body_escape (λ e. omega arith) body_ends) (λ e. absurd cc) (no_escape (codes "x") unknown);
      raw_return = other_string (13 ∷ []) (body_character (λ e. omega arith) (λ e. omega arith) (λ e. omega arith) body_ends) (λ e. absurd cc) raw_return;
      empty_strings = (string_element empty (λ e. λ f. omega arith), shared_element refl (block_string_token closing));
    }
