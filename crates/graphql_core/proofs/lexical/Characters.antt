-- The characters of a string: each has one byte that does not continue a character.
use Rattle.std.specs.List.{count_by, list_all}
use Rattle.std.specs.Str.{chars}
use Rattle.std.proofs.Common.{◌≡◌, ℕ, ◌+◌, ◌/◌, ◌%◌, ◌<◌, ◌≤◌, nat_lt, true, false, cond, ◌==◌, List, [], ◌∷◌, ◌++◌, length, IsUtf8, refl, sym, ap, ◌∙◌}
use Rattle.std.proofs.Common.{inl, inr, arith, length-append, replicate}
use Rattle.std.proofs.Math.Utf8.{encode, encodes}
use Rattle.std.proofs.lemmas.Bool.{and_parts, cases_Bool}
use Rattle.std.proofs.lemmas.Bool.Decides.{nat_tests}
use Rattle.std.proofs.lemmas.List.Folds.{list_all-append, sum_by-replicate}
use Rattle.std.proofs.lemmas.List.Sums.{sum_by-append, sum_by-cons}
use Rattle.std.proofs.lemmas.Str.{encodes-chars, encode_ascii}
use Rattle.graphql_core.specs.{continues_character, is_no_line_feed}

-- ---- bytes and characters

ascii_leads : (b : ℕ) → b < 128 → continues_character b ≡ false
ascii_leads b h = grind (arith, nat_tests)

leads : (b : ℕ) → 192 ≤ b → continues_character b ≡ false
leads b h = grind (arith, nat_tests)

-- six bits, as in each byte of a character except its first
continues : (x : ℕ) → continues_character (128 + x % 64) ≡ true
continues x = let low : x % 64 < 64 = omega arith in grind (arith, nat_tests)

no_more : (b : ℕ) (bs : List ℕ) → continues_character b ≡ false → count_by continues_character (b ∷ bs) ≡ count_by continues_character bs
no_more b bs h =
    sum_by-cons (λ y. cond (continues_character y) 1 0) b bs ∙ (λ i. cond (h i) 1 0 + count_by continues_character bs) ∙ omega arith

one_more : (x : ℕ) (bs : List ℕ) → count_by continues_character ((128 + x % 64) ∷ bs) ≡ count_by continues_character bs + 1
one_more x bs =
    sum_by-cons (λ y. cond (continues_character y) 1 0) (128 + x % 64) bs
    ∙ (λ i. cond (continues x i) 1 0 + count_by continues_character bs) ∙ omega arith

two_bytes : (a x : ℕ) → 192 ≤ a → count_by continues_character (a ∷ (128 + x % 64) ∷ []) + 1 ≡ 2
two_bytes a x h = omega (arith, no_more a ((128 + x % 64) ∷ []) (leads a h), one_more x [])

three_bytes : (a x y : ℕ) → 192 ≤ a → count_by continues_character (a ∷ (128 + x % 64) ∷ (128 + y % 64) ∷ []) + 1 ≡ 3
three_bytes a x y h =
    omega (arith, no_more a ((128 + x % 64) ∷ (128 + y % 64) ∷ []) (leads a h), one_more x ((128 + y % 64) ∷ []), one_more y [])

four_bytes : (a x y z : ℕ) → 192 ≤ a → count_by continues_character (a ∷ (128 + x % 64) ∷ (128 + y % 64) ∷ (128 + z % 64) ∷ []) + 1 ≡ 4
four_bytes a x y z h =
    omega (
      arith,
      no_more a ((128 + x % 64) ∷ (128 + y % 64) ∷ (128 + z % 64) ∷ []) (leads a h),
      one_more x ((128 + y % 64) ∷ (128 + z % 64) ∷ []),
      one_more y ((128 + z % 64) ∷ []),
      one_more z [],
    )

-- all bytes of a character continue it, except the first
in_one : (c : ℕ) → count_by continues_character (encode c) + 1 ≡ length (encode c)
unfolding encode
in_one c = elim (cases_Bool (nat_lt c 128)) [
  | inl one ↦
      let small : c < 128 = grind (arith, nat_tests) in
      rw one (omega (arith, no_more c [] (ascii_leads c small)))
  | inr more ↦ elim (cases_Bool (nat_lt c 2048)) [
    | inl two ↦ rw (more, two) (two_bytes (192 + c / 64) c (omega arith))
    | inr more2 ↦ elim (cases_Bool (nat_lt c 65536)) [
      | inl three ↦ rw (more, more2, three) (three_bytes (224 + c / 4096) (c / 64) c (omega arith))
      | inr four ↦ rw (more, more2, four) (four_bytes (240 + c / 262144) (c / 4096) (c / 64) c (omega arith))
    ]
  ]
]

in_all : (cs : List ℕ) → count_by continues_character (encodes cs) + length cs ≡ length (encodes cs)
in_all [] = omega arith
in_all (c ∷ cs) =
    omega (
      arith,
      in_one c,
      in_all cs,
      sum_by-append (λ x. cond (continues_character x) 1 0) (encode c) (encodes cs),
      length-append (encode c) (encodes cs),
    )

-- the bytes that continue a character, and one more for each character, are all bytes
pub continuing_bytes : (bytes : List ℕ) → IsUtf8 bytes → count_by continues_character bytes + length (chars bytes) ≡ length bytes
continuing_bytes bytes utf8 =
    ap (λ l. count_by continues_character l + length (chars bytes)) (sym (encodes-chars bytes utf8)) ∙ in_all (chars bytes)
    ∙ ap length (encodes-chars bytes utf8)

-- zeros continue no character
pub padded_count : (bytes : List ℕ) (n : ℕ) → count_by continues_character (bytes ++ replicate n 0) ≡ count_by continues_character bytes
padded_count bytes n =
    let f : ℕ → ℕ = λ x. cond (continues_character x) 1 0 in
    omega (arith, sum_by-append f bytes (replicate n 0), sum_by-replicate f n 0)

-- ---- line feeds

no_feeds : (cs : List ℕ) → list_all is_no_line_feed (encodes cs) ≡ true → list_all is_no_line_feed cs ≡ true
no_feeds [] all = refl
no_feeds (c ∷ cs) all =
    let (here, more) = and_parts (list_all is_no_line_feed (encode c)) (list_all is_no_line_feed (encodes cs))
    (sym (list_all-append is_no_line_feed (encode c) (encodes cs)) ∙ all) in
    elim (cases_Bool (c == 10)) [
      | inl feed ↦
          let is : c ≡ 10 = grind (arith, nat_tests) in
          absurd (let first = rw (encode_ascii c (omega arith), feed) at here in cc)
      | inr other ↦ rw other (no_feeds cs more)
    ]

-- no character is a line feed if no byte is
pub characters_no_feed : (bytes : List ℕ) → IsUtf8 bytes → list_all is_no_line_feed bytes ≡ true → list_all is_no_line_feed (chars bytes) ≡ true
characters_no_feed bytes utf8 all = no_feeds (chars bytes) (ap (list_all is_no_line_feed) (encodes-chars bytes utf8) ∙ all)
