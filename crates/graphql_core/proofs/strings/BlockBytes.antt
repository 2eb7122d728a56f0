-- A string has only characters of a block string exactly if it has only their bytes.
use Rattle.std.specs.List.{fold, list_all}
use Rattle.std.proofs.Common.{◌≡◌, ◌∙◌, ap, sym, refl, ℕ, ◌+◌, ◌/◌, ◌%◌, ◌<◌, ◌≤◌, Bool, true, false, ◌&&◌, inl, inr, List, [], ◌∷◌, nat_lt, nat_le, arith}
use Rattle.std.proofs.Math.Utf8.{encode, encodes}
use Rattle.std.proofs.lemmas.List.Folds.{list_all-append}
use Rattle.std.proofs.lemmas.Str.{encodes-chars}
use Rattle.std.specs.Str.{IsUtf8, chars}
use Rattle.std.proofs.lemmas.Bool.{cases_Bool}
use Rattle.std.proofs.lemmas.Bool.Decides.{nat_tests}
use Rattle.graphql_core.specs.{is_block_character, is_block_byte}

in_block : (b : ℕ) → 32 ≤ b → b < 240 → is_block_byte b ≡ true
in_block b low high = grind (arith, nat_tests)

stops : (b : ℕ) → 240 ≤ b → is_block_byte b ≡ false
stops b high = grind (arith, nat_tests)

within : (c : ℕ) → 32 ≤ c → c < 65536 → is_block_character c ≡ true
within c low high = grind (arith, nat_tests)

past : (c : ℕ) → 65536 ≤ c → is_block_character c ≡ false
past c high = grind (arith, nat_tests)

ascii : (c : ℕ) → c < 128 → is_block_byte c ≡ is_block_character c
ascii c small =
    let below : nat_lt c 240 ≡ true = grind (arith, nat_tests) in
    let within_plane : nat_le c 65535 ≡ true = grind (arith, nat_tests) in
    rw (below, within_plane) refl

-- the bytes of one character
encoded : (c : ℕ) → list_all is_block_byte (encode c) ≡ is_block_character c
unfolding encode
encoded c = elim (cases_Bool (nat_lt c 128)) [
  | inl one ↦
      let small : c < 128 = grind (arith, nat_tests) in
      rw one (rw (ascii c small) (and_true (is_block_character c)))
  | inr more ↦ elim (cases_Bool (nat_lt c 2048)) [
    | inl two ↦
        let low : 128 ≤ c = grind (arith, nat_tests) in
        let high : c < 2048 = grind (arith, nat_tests) in
        rw (more, two, in_block (192 + c / 64) (omega arith) (omega arith), in_block (128 + c % 64) (omega arith) (omega arith))
        (sym (within c (omega arith) (omega arith)))
    | inr later ↦ elim (cases_Bool (nat_lt c 65536)) [
      | inl three ↦
          let low : 2048 ≤ c = grind (arith, nat_tests) in
          let high : c < 65536 = grind (arith, nat_tests) in
          rw (
            more,
            later,
            three,
            in_block (224 + c / 4096) (omega arith) (omega arith),
            in_block (128 + c / 64 % 64) (omega arith) (omega arith),
            in_block (128 + c % 64) (omega arith) (omega arith),
          ) (sym (within c (omega arith) (omega arith)))
      | inr four ↦
          let low : 65536 ≤ c = grind (arith, nat_tests) in
          rw (more, later, four, stops (240 + c / 262144) (omega arith)) (sym (past c low))
    ]
  ]
]
  where
    and_true : (b : Bool) → (b && true) ≡ b
    and_true true = refl
    and_true false = refl

encoded_all : (cs : List ℕ) → list_all is_block_byte (encodes cs) ≡ list_all is_block_character cs
encoded_all [] = refl
encoded_all (c ∷ cs) = list_all-append is_block_byte (encode c) (encodes cs) ∙ rw (encoded c, encoded_all cs) refl

pub block_bytes : (text : List ℕ) → IsUtf8 text → list_all is_block_byte text ≡ list_all is_block_character (chars text)
block_bytes text u = ap (list_all is_block_byte) (sym (encodes-chars text u)) ∙ encoded_all (chars text)

folded_after : (p : ℕ → Bool) (xs : List ℕ) (all : Bool) → fold (λ a x. a && p x) all xs ≡ (all && list_all p xs)
folded_after p [] true = refl
folded_after p [] false = refl
folded_after p (x ∷ xs) true = folded_after p xs (p x)
folded_after p (x ∷ xs) false = folded_after p xs false

pub all_folded : (p : ℕ → Bool) (xs : List ℕ) → fold (λ a x. a && p x) true xs ≡ list_all p xs
all_folded p xs = folded_after p xs true

-- all pass both tests exactly if all pass the first and all pass the second
pub all_both : (p q : List ℕ → Bool) (xs : List (List ℕ)) → list_all (λ x. p x && q x) xs ≡ (list_all p xs && list_all q xs)
all_both p q [] = refl
all_both p q (x ∷ xs) = elim (cases_Bool (p x)) [
  | inr fails ↦ rw fails refl
  | inl holds ↦ elim (cases_Bool (q x)) [
    | inl both ↦ rw (holds, both) (all_both p q xs)
    | inr fails ↦ rw (holds, fails) (sym (and_false (list_all p xs)))
  ]
]
  where
    and_false : (b : Bool) → (b && false) ≡ false
    and_false true = refl
    and_false false = refl
