-- The block form of a string is a block string, and parses back.
use Rattle.std.proofs.Common.{◌≡◌, ◌≢◌, ℕ, zero, suc, Bool, true, false, ◌&&◌, ◌==◌, List, [], ◌∷◌, ◌++◌, refl, subst, inl, inr, arith, append_assoc}
use Rattle.graphql_core.specs.{begins_escape, ClosesBlock, closing, escape, unit, block_string_token, begins_quotes}
use Rattle.graphql_core.specs.{spaces, lines_of, escaped_quotes, block_line, in_block_form}
use Rattle.std.proofs.lemmas.Bool.{cases_Bool}
use Rattle.std.proofs.lemmas.Bool.Decides.{nat_tests}
use Rattle.graphql_core.proofs.layouts.Joining.{IsWord}
use Rattle.std.specs.List.{flat_map}
use Rattle.graphql_core.specs.declared.tokenizer.token.Kind.TheVariants.{BlockString}
use Rattle.graphql_core.proofs.lexical.Strings.{no_second_quote}

-- ---- quotes and escapes

no_quotes_1 : (a : ℕ) (xs : List ℕ) → a ≢ 34 → begins_quotes (a ∷ xs) ≡ false
no_quotes_1 a [] h = refl
no_quotes_1 a (b ∷ []) h = refl
no_quotes_1 a (b ∷ c ∷ xs) h = grind (arith, nat_tests)

no_quotes_3 : (a b c : ℕ) (xs : List ℕ) → c ≢ 34 → begins_quotes (a ∷ b ∷ c ∷ xs) ≡ false
no_quotes_3 a b c xs h = grind (arith, nat_tests)

-- if no three quotes follow the first byte, no escape begins there
no_escape : (a : ℕ) (xs : List ℕ) → begins_quotes xs ≡ false → begins_escape (a ∷ xs) ≡ false
no_escape a xs h = elim (cases_Bool (a == 92)) [ inl e ↦ rw (e, h) refl | inr e ↦ rw e refl ]

-- three quotes
abbrev pub is_triple : ℕ → ℕ → ℕ → Bool
is_triple a b c = a == 34 && (b == 34 && c == 34)

pub triple_front : (a b c : ℕ) (s : List ℕ) → is_triple a b c ≡ true → escaped_quotes (a ∷ b ∷ c ∷ s) ≡ 92 ∷ 34 ∷ 34 ∷ 34 ∷ escaped_quotes s
triple_front a b c s h = rw h refl

pub other_front : (a b c : ℕ) (s : List ℕ) → is_triple a b c ≡ false → escaped_quotes (a ∷ b ∷ c ∷ s) ≡ a ∷ escaped_quotes (b ∷ c ∷ s)
other_front a b c s h = rw h refl

-- if a line feed follows a string with escaped quotes, the two do not begin with three quotes
pub no_quotes_escaped : (s more : List ℕ) → begins_quotes (escaped_quotes s ++ 10 ∷ more) ≡ false
no_quotes_escaped [] more = no_quotes_1 10 more (λ e. omega arith)
no_quotes_escaped (a ∷ []) more = no_second_quote a 10 more (λ e. omega arith)
no_quotes_escaped (a ∷ b ∷ []) more = no_quotes_3 a b 10 more (λ e. omega arith)
no_quotes_escaped (a ∷ b ∷ c ∷ s) more =
    elim (cases_Bool (is_triple a b c)) [
      | inl h ↦ rw (triple_front a b c s h) (no_quotes_1 92 (34 ∷ 34 ∷ 34 ∷ (escaped_quotes s ++ 10 ∷ more)) (λ e. omega arith))
      | inr h ↦ rw (other_front a b c s h) (second s h)
    ]
  where
    third : (d : ℕ) (s : List ℕ) → is_triple a b c ≡ false → begins_quotes (a ∷ b ∷ (escaped_quotes (c ∷ d ∷ s) ++ 10 ∷ more)) ≡ false
    third d [] h = h
    third d (e ∷ s) h =
        elim (cases_Bool (is_triple c d e)) [
          | inl t ↦ rw (triple_front c d e s t) (no_quotes_3 a b 92 (34 ∷ 34 ∷ 34 ∷ (escaped_quotes s ++ 10 ∷ more)) (λ z. omega arith))
          | inr t ↦ rw (other_front c d e s t) h
        ]

    second : (s : List ℕ) → is_triple a b c ≡ false → begins_quotes (a ∷ (escaped_quotes (b ∷ c ∷ s) ++ 10 ∷ more)) ≡ false
    second [] h = h
    second (d ∷ s) h =
        elim (cases_Bool (is_triple b c d)) [
          | inl t ↦ rw (triple_front b c d s t) (no_second_quote a 92 (34 ∷ 34 ∷ 34 ∷ (escaped_quotes s ++ 10 ∷ more)) (λ z. omega arith))
          | inr t ↦ rw (other_front b c d s t) (third d s h)
        ]

-- ---- the block form closes

closes_feed : {more : List ℕ} → ClosesBlock more → ClosesBlock (10 ∷ more)
closes_feed {more} h = unit (no_quotes_1 10 more (λ e. omega arith)) refl h

closes_spaces : (n : ℕ) {more : List ℕ} → ClosesBlock more → ClosesBlock (spaces n ++ more)
closes_spaces zero h = h
closes_spaces (suc n) {more} h = unit (no_quotes_1 32 (spaces n ++ more) (λ e. omega arith)) refl (closes_spaces n h)

closes_escaped : (s : List ℕ) {more : List ℕ} → ClosesBlock (10 ∷ more) → ClosesBlock (escaped_quotes s ++ 10 ∷ more)
closes_escaped [] h = h
closes_escaped (a ∷ []) {more} h = unit (no_quotes_escaped (a ∷ []) more) (no_escape a (10 ∷ more) (no_quotes_escaped [] more)) h
closes_escaped (a ∷ b ∷ []) {more} h =
    unit (no_quotes_escaped (a ∷ b ∷ []) more) (no_escape a (b ∷ 10 ∷ more) (no_quotes_escaped (b ∷ []) more))
    (unit (no_quotes_escaped (b ∷ []) more) (no_escape b (10 ∷ more) (no_quotes_escaped [] more)) h)
closes_escaped (a ∷ b ∷ c ∷ s) {more} h =
    elim (cases_Bool (is_triple a b c)) [
      | inl t ↦ rw (triple_front a b c s t) (escape (closes_escaped s h))
      | inr t ↦
          let front : begins_quotes (a ∷ (escaped_quotes (b ∷ c ∷ s) ++ 10 ∷ more))
          ≡ false = subst (λ (l : List ℕ). begins_quotes (l ++ 10 ∷ more) ≡ false) (other_front a b c s t) (no_quotes_escaped (a ∷ b ∷ c ∷ s) more) in
          rw (other_front a b c s t) (unit front (no_escape a (escaped_quotes (b ∷ c ∷ s) ++ 10 ∷ more) (no_quotes_escaped (b ∷ c ∷ s) more))
          (closes_escaped (b ∷ c ∷ s) h))
    ]

closes_line : (inside : ℕ) (l : List ℕ) {more : List ℕ} → ClosesBlock more → ClosesBlock (block_line inside l ++ more)
closes_line inside [] h = closes_feed h
closes_line inside (b ∷ bs) {more} h =
    rw (append_assoc (spaces inside) (escaped_quotes (b ∷ bs) ++ 10 ∷ []) more, append_assoc (escaped_quotes (b ∷ bs)) (10 ∷ []) more)
    (closes_spaces inside (closes_escaped (b ∷ bs) (closes_feed h)))

closes_lines : (inside : ℕ) (ls : List (List ℕ)) {more : List ℕ} → ClosesBlock more → ClosesBlock (flat_map (block_line inside) ls ++ more)
closes_lines inside [] h = h
closes_lines inside (l ∷ ls) {more} h =
    rw (append_assoc (block_line inside l) (flat_map (block_line inside) ls) more) (closes_line inside l (closes_lines inside ls h))

pub block_word : (inside margin : ℕ) (text : List ℕ) → IsWord BlockString (in_block_form inside margin text)
block_word inside margin text rest ends = block_string_token (closes_feed (closes_lines inside (lines_of text) (closes_spaces margin closing)))
