-- The value of a string, computed from its front, is what its units denote.
use Rattle.std.specs.Char.{IsScalar, encode_utf8, is_ascii_hexdigit}
use Rattle.std.proofs.Common.{◌≡◌, ◌≢◌, ◌↔◌, ℕ, ◌<◌, true, false, not, ◌&&◌, is_some, List, [], ◌∷◌, ◌++◌, length, Option, Some, None, refl, sym, ap}
use Rattle.std.proofs.Common.{◌∙◌, subst, inl, inr, arith}
use Rattle.std.proofs.lemmas.Bool.{ne_eqb, cases_eq, and_parts, not-true, cases_Bool}
use Rattle.std.specs.Option.{unwrap_or}
use Rattle.std.specs.Str.Parse.{digits_value}
use Rattle.graphql_core.specs.{NamesCharacter, Denotes, HasNoStringValue, itself, escaped_quote, escaped_backslash, escaped_slash, escaped_backspace}
use Rattle.graphql_core.specs.{escaped_form_feed, escaped_line_feed, escaped_carriage_return, escaped_tab, escaped_unicode, no_units, unit_then, HasValue}
use Rattle.graphql_core.specs.{string_of, without_ends, before, escape_of, is_surrogate, named_by, unquoted, escaped, unquoted_unicode}
use Rattle.std.proofs.lemmas.Bool.Decides.{nat_tests}
use Rattle.graphql_core.proofs.strings.Escapes.{four_digits}
use Rattle.std.specs.List.{list_all}

-- ---- from units to the value

-- `before` joins two values that exist
before_some : (a b : List ℕ) (o p : Option (List ℕ)) → o ≡ Some a → p ≡ Some b → before o p ≡ Some (a ++ b)
before_some a b o p e f = rw (e, f) refl

-- a character is no surrogate
no_surrogate : (c : ℕ) → IsScalar c → is_surrogate c ≡ false
no_surrogate c h = grind (arith, nat_tests)

named_some : (digits : List ℕ) (c : ℕ) → NamesCharacter digits c → named_by digits ≡ Some (encode_utf8 c)
named_some digits c n = rw (n.hexadecimal, n.value, no_surrogate c n.exists) refl

past_name : (digits : List ℕ) (c : ℕ) (body value : List ℕ) → NamesCharacter digits c → unquoted body ≡ Some value
    → unquoted_unicode (digits ++ body) ≡ Some (encode_utf8 c ++ value)
unfolding unquoted escaped unquoted_unicode
past_name [] c body value n h = let four = n.four in absurd (omega arith)
past_name (p ∷ []) c body value n h = let four = n.four in absurd (omega arith)
past_name (p ∷ q ∷ []) c body value n h = let four = n.four in absurd (omega arith)
past_name (p ∷ q ∷ r ∷ []) c body value n h = let four = n.four in absurd (omega arith)
past_name (p ∷ q ∷ r ∷ s ∷ []) c body value n h = before_some _ _ _ _ (named_some (p ∷ q ∷ r ∷ s ∷ []) c n) h
past_name (p ∷ q ∷ r ∷ s ∷ t ∷ others) c body value n h = let four = n.four in absurd (omega arith)

past_unit : {unit bytes : List ℕ} (body value : List ℕ) → Denotes unit bytes → unquoted body ≡ Some value → unquoted (unit ++ body) ≡ Some (bytes ++ value)
unfolding unquoted escaped unquoted_unicode
past_unit body value (itself b h) e = rw (ne_eqb b 92 h, e) refl
past_unit body value escaped_quote e = rw e refl
past_unit body value escaped_backslash e = rw e refl
past_unit body value escaped_slash e = rw e refl
past_unit body value escaped_backspace e = rw e refl
past_unit body value escaped_form_feed e = rw e refl
past_unit body value escaped_line_feed e = rw e refl
past_unit body value escaped_carriage_return e = rw e refl
past_unit body value escaped_tab e = rw e refl
past_unit body value (escaped_unicode digits c n) e = past_name digits c body value n e

pub unquoted-from_value : {body value : List ℕ} → HasValue body value → unquoted body ≡ Some value
unfolding unquoted escaped unquoted_unicode
unquoted-from_value no_units = refl
unquoted-from_value (unit_then unit bytes body value s h) = past_unit body value s (unquoted-from_value h)

-- ---- from the value to units

record Joined (o p : Option (List ℕ)) (v : List ℕ) : Type 0 where
  front : List ℕ
  after : List ℕ
  front_is : o ≡ Some front
  after_is : p ≡ Some after
  whole : front ++ after ≡ v

joined : (o p : Option (List ℕ)) (v : List ℕ) → before o p ≡ Some v → Joined o p v
joined (Some a) (Some b) v e = record { front = a; after = b; front_is = refl; after_is = refl; whole = cc }
joined (Some a) None v e = absurd cc
joined None p v e = absurd cc

letter_at : (c k : ℕ) (a value : List ℕ) → escape_of k ≡ Some value → Denotes (92 ∷ k ∷ []) value → escape_of c ≡ Some a → c ≡ k → Denotes (92 ∷ c ∷ []) a
letter_at c k a value f s e h =
    let same = sym e ∙ ap escape_of h ∙ f in
    let bytes : a ≡ value = cc in
    rw (h, bytes) s

no_letter : (c : ℕ) → c ≢ 34 → c ≢ 92 → c ≢ 47 → c ≢ 98 → c ≢ 102 → c ≢ 110 → c ≢ 114 → c ≢ 116 → escape_of c ≡ None
no_letter c h1 h2 h3 h4 h5 h6 h7 h8 = rw
    (ne_eqb c 34 h1, ne_eqb c 92 h2, ne_eqb c 47 h3, ne_eqb c 98 h4, ne_eqb c 102 h5, ne_eqb c 110 h6, ne_eqb c 114 h7, ne_eqb c 116 h8) refl

letter : (c : ℕ) (a : List ℕ) → escape_of c ≡ Some a → Denotes (92 ∷ c ∷ []) a
letter c a e =
    let at = λ (k : ℕ) (value : List ℕ) (f : escape_of k ≡ Some value) (s : Denotes (92 ∷ k ∷ []) value) (h : c ≡ k). letter_at c k a value f s e h in
    elim (cases_eq c 34) [
      | inl h ↦ at 34 _ refl escaped_quote h
      | inr h1 ↦
          elim (cases_eq c 92) [
            | inl h ↦ at 92 _ refl escaped_backslash h
            | inr h2 ↦
                elim (cases_eq c 47) [
                  | inl h ↦ at 47 _ refl escaped_slash h
                  | inr h3 ↦
                      elim (cases_eq c 98) [
                        | inl h ↦ at 98 _ refl escaped_backspace h
                        | inr h4 ↦
                            elim (cases_eq c 102) [
                              | inl h ↦ at 102 _ refl escaped_form_feed h
                              | inr h5 ↦
                                  elim (cases_eq c 110) [
                                    | inl h ↦ at 110 _ refl escaped_line_feed h
                                    | inr h6 ↦
                                        elim (cases_eq c 114) [
                                          | inl h ↦ at 114 _ refl escaped_carriage_return h
                                          | inr h7 ↦
                                              elim (cases_eq c 116) [
                                                | inl h ↦ at 116 _ refl escaped_tab h
                                                | inr h8 ↦ absurd
                                                    (no_value (sym (no_letter c h1 h2 h3 h4 h5 h6 h7 h8) ∙ e))
                                              ]
                                        ]
                                  ]
                            ]
                      ]
                ]
          ]
    ]
  where
    no_value : None ≡ Some a → ⊥
    no_value h = cc

-- four digits name the character with their number
scalar_value : (c : ℕ) → c < 65536 → is_surrogate c ≡ false → IsScalar c
scalar_value c h s = grind (arith, nat_tests)

name_of : (ds a : List ℕ) → length ds ≡ 4 → named_by ds ≡ Some a → Denotes (92 ∷ 117 ∷ ds) a
name_of ds a n e =
    elim (cases_Bool (list_all is_ascii_hexdigit ds && not (is_surrogate (digits_value 16 ds)))) [
      | inl h ↦
          let (all, other) = and_parts (list_all is_ascii_hexdigit ds) _ h in
          let is : Some (encode_utf8 (digits_value 16 ds)) ≡ Some a = rw h at e in
          let bytes : a ≡ encode_utf8 (digits_value 16 ds) = cc in
          rw bytes (escaped_unicode ds (digits_value 16 ds)
          (record { four = n; hexadecimal = all; value = refl; exists = scalar_value _ (four_digits ds n all) (not-true _ other) }))
      | inr h ↦ let is : None ≡ Some a = rw h at e in absurd cc
    ]

-- a unit before a string that has a value
add_unit : {o p : Option (List ℕ)} {v : List ℕ} (unit body : List ℕ) → ((a : List ℕ) → o ≡ Some a → Denotes unit a)
    → ((b : List ℕ) → p ≡ Some b → HasValue body b) → before o p ≡ Some v → HasValue (unit ++ body) v
add_unit {o} {p} {v} unit body holds rest e =
    let j = joined o p v e in
    subst (HasValue (unit ++ body)) j.whole (unit_then unit j.front body j.after (holds j.front j.front_is) (rest j.after j.after_is))

plain_unit : (b : ℕ) (a : List ℕ) → b ≢ 92 → Some (b ∷ []) ≡ Some a → Denotes (b ∷ []) a
plain_unit b a h e = let bytes : a ≡ b ∷ [] = cc in rw bytes (itself b h)

mutual
  unfolding unquoted escaped unquoted_unicode

  pub value-from_unquoted : (body v : List ℕ) → unquoted body ≡ Some v → HasValue body v
  value-from_unquoted [] v e = let none : v ≡ [] = cc in rw none no_units
  value-from_unquoted (b ∷ bs) v e =
      elim (cases_eq b 92) [
        | inl h ↦ rw h (value-from_escaped bs v (rw h at e))
        | inr h ↦ add_unit (b ∷ []) bs (λ a. plain_unit b a h) (λ w. value-from_unquoted bs w) (rw (ne_eqb b 92 h) at e)
      ]

  value-from_escaped : (bs v : List ℕ) → escaped bs ≡ Some v → HasValue (92 ∷ bs) v
  value-from_escaped [] v e = absurd cc
  value-from_escaped (c ∷ cs) v e =
      elim (cases_eq c 117) [
        | inl h ↦ rw h (value-from_named cs v (rw h at e))
        | inr h ↦ add_unit (92 ∷ c ∷ []) cs (letter c) (λ w. value-from_unquoted cs w) (rw (ne_eqb c 117 h) at e)
      ]

  value-from_named : (cs v : List ℕ) → unquoted_unicode cs ≡ Some v → HasValue (92 ∷ 117 ∷ cs) v
  value-from_named [] v e = absurd cc
  value-from_named (p ∷ []) v e = absurd cc
  value-from_named (p ∷ q ∷ []) v e = absurd cc
  value-from_named (p ∷ q ∷ r ∷ []) v e = absurd cc
  value-from_named (p ∷ q ∷ r ∷ s ∷ rest) v e = add_unit (92 ∷ 117 ∷ p ∷ q ∷ r ∷ s ∷ []) rest (λ a. name_of (p ∷ q ∷ r ∷ s ∷ []) a refl)
      (λ w. value-from_unquoted rest w) e

pub has_unquoted : (body v : List ℕ) → (unquoted body ≡ Some v) ↔ HasValue body v
has_unquoted body v = (value-from_unquoted body v, unquoted-from_value)

-- ---- what the spelling of a string states

pub some_unquoted : (body v : List ℕ) → HasValue body v → is_some (unquoted body) ≡ true
some_unquoted body v h = rw (unquoted-from_value h) refl

none_by : (body : List ℕ) (o : Option (List ℕ)) → unquoted body ≡ o → HasNoStringValue body → is_some o ≡ false
none_by body None e h = refl
none_by body (Some v) e h = absurd (h v (value-from_unquoted body v e))

pub none_unquoted : (body : List ℕ) → HasNoStringValue body → is_some (unquoted body) ≡ false
none_unquoted body h = none_by body (unquoted body) refl h

pub string_means : (spelling v : List ℕ) → HasValue (without_ends 1 spelling) v → v ≡ string_of spelling
string_means spelling v h = ap (λ o. unwrap_or o []) (sym (unquoted-from_value h))
