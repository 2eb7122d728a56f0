use lib.Utf8.{encode}
use Rattle.std.specs.Char.{IsScalar}
use Rattle.std.proofs.Common.{◌≡◌, ◌≢◌, ◌∙◌, ℕ, ◌+◌, ◌++◌, List, [], ◌∷◌, length, codes, refl, sym, ap, subst, arith, length-append}
use Rattle.std.specs.Str.Parse.{digits_value}
use Rattle.graphql_core.specs.{HasValue, HasNoStringValue, Denotes, BeginsNoName, no_units, unit_then}
use Rattle.graphql_core.specs.{escaped_slash, escaped_backspace, escaped_unicode, common_indent}
use Rattle.graphql_core.proofs.{digits_at, no_escape_named, no_escape_other, no_value}
use Rattle.graphql_core.proofs.common.laws.worked_values.Goals as goal

-- a string of one unit
one_unit : (unit bytes : List ℕ) → Denotes (92 ∷ unit) bytes → HasValue (92 ∷ unit ++ []) (bytes ++ [])
one_unit unit bytes s = unit_then (92 ∷ unit) bytes [] [] s no_units

-- a backslash, and then no escape
none : (text : List ℕ) → ((unit bytes after : List ℕ) → Denotes (92 ∷ unit) bytes → text ≢ unit ++ after) → HasNoStringValue (92 ∷ text)
none text other v h = no_value [] text v (λ i small. absurd (omega (arith, small))) other h

too_few : BeginsNoName (codes "12")
too_few digits after c n e =
    let long : 2 ≡ length digits + length after = cc (ap length e, length-append digits after) in
    let four = n.four in
    omega (arith, long, four)

surrogate : BeginsNoName (codes "DFFF")
surrogate digits after c n e =
    let same : codes "DFFF" ≡ digits = digits_at (codes "DFFF") digits after n.four e in
    let code : digits_value 16 (codes "DFFF") ≡ c = ap (digits_value 16) same ∙ n.value in
    let exists : IsScalar 57343 = subst IsScalar (sym code) n.exists in
    cc exists

pub returns : goal.returns
unfolding common_indent encode
returns c = record {
  letters = unit_then (92 ∷ 47 ∷ []) (47 ∷ []) _ _ escaped_slash (unit_then (92 ∷ 98 ∷ []) (8 ∷ []) _ _ escaped_backspace no_units);
  digits = (
    one_unit (117 ∷ codes "00e9") (195 ∷ 169 ∷ [])
        (escaped_unicode (codes "00e9") 233 (record { four = refl; hexadecimal = refl; value = refl; exists = refl })),
    one_unit (117 ∷ codes "00E9") (195 ∷ 169 ∷ [])
        (escaped_unicode (codes "00E9") 233 (record { four = refl; hexadecimal = refl; value = refl; exists = refl })),
  );
  bad_escapes = (
    none (117 ∷ codes "12") (no_escape_named (117 ∷ codes "12") (codes "12") refl too_few),
    none (120 ∷ []) (no_escape_other (120 ∷ []) [] 120 refl (omega arith) (omega arith) (omega arith) (omega arith) (omega arith) (omega arith) (omega arith)
        (omega arith) (omega arith)),
    none (117 ∷ codes "DFFF") (no_escape_named (117 ∷ codes "DFFF") (codes "DFFF") refl surrogate),
  );
  unindented = refl;
  first_line = refl;
  blank = refl;
  return_feed = refl;
  return_in_line = refl;
  ideographic_space = refl;
  blank_between = refl;
  escaped_quotes = refl;
}
