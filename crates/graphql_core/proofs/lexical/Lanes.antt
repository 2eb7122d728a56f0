-- From the mask of one load to the bytes that pass a test, and from one load to a run.
use lib.Lanes.{mask_l, top}
use native.Mathlib.Numerals.{unary_clauses}
use Rattle.std.specs.List.{prefix_len, count_by}
use Rattle.std.proofs.Common.{◌≡◌, ℕ, zero, suc, ◌+◌, ◌-◌, ◌*◌, ◌/◌, ◌%◌, ◌^◌, ◌<◌, ◌≤◌, ◌≢◌, Bool, true, false, not, List, [], ◌∷◌, map, ◌++◌, take, drop}
use Rattle.std.proofs.Common.{cond, count_ones, length, min, get_or, Fits, w8, refl, sym, ap, ◌∙◌, arith, inl, inr, length-drop, length-take-le, length-append}
use Rattle.std.proofs.lemmas.Bool.{cases_Bool, agree_below, agree_below_at, cases_eq, eq-eqb, ne_eqb, cond-true, cond-false}
use Rattle.std.proofs.lemmas.Simd.{map-map, mask_l-mod, length-chunk, leading_from_mask_l, trailing_mask_l, ones-mask_l}
use Rattle.std.proofs.lemmas.List.{length-map, length-take, drop-map, drop-take, get_or-drop, drop_at, take_at, take_all, take-append-drop}
use Rattle.std.proofs.lemmas.Slice.{take-put_mid}
use borrow.Rule.Slice.PartMut.{put_mid}
use Rattle.std.proofs.lemmas.List.Sums.{prefix_len-le-length, sum_by-cons}
use Rattle.std.proofs.Math.Nat.{div-div-eq-div-mul, zero-div}
use Rattle.graphql_core.specs.{first_set}

run_is : (p : ℕ → Bool) (v : List ℕ) (n : ℕ) → length v ≡ n → n ≤ 64 → first_set (mask_l (map p v)) n ≡ prefix_len (λ x. not (p x)) v
run_is p v n long few =
    elim (cases_eq (mask_l (map p v)) 0) [
      | inl none ↦ cond-true _ _ _ (eq-eqb _ _ none) ∙ sym (leading_from_mask_l p v none ∙ long)
      | inr some ↦ cond-false _ _ _ (ne_eqb _ _ some) ∙ trailing_mask_l p 64 v (omega arith) (omega arith)
    ]

same_prefix : (p q : ℕ → Bool) → ((b : ℕ) → b < 256 → p b ≡ not (q b)) → (n : ℕ) (d : List ℕ) → ((k : ℕ) → get_or d k 0 < 256)
    → prefix_len (λ x. not (p x)) (take n d) ≡ prefix_len q (take n d)
same_prefix p q agree zero d fits = refl
same_prefix p q agree (suc n) [] fits = refl
same_prefix p q agree (suc n) (x ∷ xs) fits =
    let more = same_prefix p q agree n xs (λ k. fits (suc k)) in
    let here = agree x (fits 0) in
    elim (cases_Bool (q x)) [
      | inl pass ↦ let e : p x ≡ false = here ∙ ap not pass in rw (e, pass) (omega (arith, more))
      | inr stop ↦ let e : p x ≡ true = here ∙ ap not stop in rw (e, stop) refl
    ]

-- a lane stops exactly if q fails
pub lanes_run : (q : ℕ → Bool) (d : List ℕ) (n r : ℕ) (z : List ℕ) → n ≤ length d → n ≤ 64 → ((k : ℕ) → Fits w8 (get_or d k 0))
    → r ≡ first_set (mask_l (map (top 7) z) % 2 ^ 64) n → (f : ℕ → ℕ) → (length (take n d) ≡ n → z ≡ map f (take n d))
    → agree_below (λ x. top 7 (f x)) (λ x. not (q x)) 256 ≡ true → r ≡ prefix_len q (take n d)
lanes_run q d n r z capacity few fits found f lanes all =
    let v = take n d in
    let long : length v ≡ n = length-chunk 0 n d (omega arith) in
    let stops : ℕ → Bool = λ x. top 7 (f x) in
    let mask = ap (λ l. mask_l l % 2 ^ 64) (ap (map (top 7)) (lanes long) ∙ map-map (top 7) f v)
    ∙ mask_l-mod (map stops v) 64 (omega (arith, length-map v stops, long)) in
    found ∙ ap (λ m. first_set m n) mask ∙ run_is stops v n long few
    ∙ same_prefix stops q (λ b lt. agree_below_at stops (λ x. not (q x)) 256 b all lt) n d (λ k. (fits k).fits)

same_count : (p q : ℕ → Bool) → ((b : ℕ) → b < 256 → p b ≡ q b) → (n : ℕ) (d : List ℕ) → ((k : ℕ) → get_or d k 0 < 256)
    → count_by p (take n d) ≡ count_by q (take n d)
same_count p q agree zero d fits = refl
same_count p q agree (suc n) [] fits = refl
same_count p q agree (suc n) (x ∷ xs) fits =
    let more = same_count p q agree n xs (λ k. fits (suc k)) in
    sum_by-cons (λ y. cond (p y) 1 0) x (take n xs) ∙ (λ i. cond (agree x (fits 0) i) 1 0 + more i) ∙ sym (sum_by-cons (λ y. cond (q y) 1 0) x (take n xs))

-- a lane is set exactly if q passes
pub lanes_count : (q : ℕ → Bool) (d : List ℕ) (n r : ℕ) (z : List ℕ) → n ≤ length d → n ≤ 64 → ((k : ℕ) → Fits w8 (get_or d k 0))
    → r ≡ count_ones (mask_l (map (top 7) z) % 2 ^ 64) → (f : ℕ → ℕ) → (length (take n d) ≡ n → z ≡ map f (take n d))
    → agree_below (λ x. top 7 (f x)) q 256 ≡ true → r ≡ count_by q (take n d)
lanes_count q d n r z capacity few fits counted f lanes all =
    let v = take n d in
    let long : length v ≡ n = length-chunk 0 n d (omega arith) in
    let set : ℕ → Bool = λ x. top 7 (f x) in
    let mask = ap (λ l. mask_l l % 2 ^ 64) (ap (map (top 7)) (lanes long) ∙ map-map (top 7) f v)
    ∙ mask_l-mod (map set v) 64 (omega (arith, length-map v set, long)) in
    counted ∙ ap count_ones mask ∙ ones-mask_l set v
    ∙ same_count set q (λ b lt. agree_below_at set q 256 b all lt) n d (λ k. (fits k).fits)

-- the lowest bits of a mask are those of the first lanes
mask_drop : (ms : List Bool) (k : ℕ) → mask_l ms / 2 ^ k ≡ mask_l (drop k ms)
mask_drop ms zero = omega arith
mask_drop [] (suc k) = zero-div (2 ^ suc k)
mask_drop (b ∷ ms) (suc k) =
    let half : mask_l (b ∷ ms) / 2 ≡ mask_l ms = elim (cases_Bool b) [
      | inl set ↦ rw set (omega arith)
      | inr unset ↦ rw unset (omega arith)
    ] in
    let turned : 2 ^ k * 2 ≡ 2 * 2 ^ k = omega arith in
    simp unary_clauses (ap (λ n. mask_l (b ∷ ms) / n) turned ∙ sym (div-div-eq-div-mul (mask_l (b ∷ ms)) 2 (2 ^ k)) ∙ ap (λ n. n / 2 ^ k) half ∙ mask_drop ms k)

-- from lane `start` on, a lane stops exactly if q fails
pub lanes_run_from : (q : ℕ → Bool) (d : List ℕ) (n start r : ℕ) (z : List ℕ) → start ≤ n → n ≤ length d → n ≤ 64 → ((k : ℕ) → Fits w8 (get_or d k 0))
    → r ≡ first_set (mask_l (map (top 7) z) % 2 ^ 64 / 2 ^ start) (n - start) → (f : ℕ → ℕ) → (length (take n d) ≡ n → z ≡ map f (take n d))
    → agree_below (λ x. top 7 (f x)) (λ x. not (q x)) 256 ≡ true → r ≡ prefix_len q (take (n - start) (drop start d))
lanes_run_from q d n start r z le capacity few fits found f lanes all =
    let v = take n d in
    let long : length v ≡ n = length-chunk 0 n d (omega arith) in
    let stops : ℕ → Bool = λ x. top 7 (f x) in
    let mask = ap (λ l. mask_l l % 2 ^ 64) (ap (map (top 7)) (lanes long) ∙ map-map (top 7) f v)
    ∙ mask_l-mod (map stops v) 64 (omega (arith, length-map v stops, long)) in
    let total : start + (n - start) ≡ n = omega arith in
    let left : drop start v ≡ take (n - start) (drop start d) = ap (λ k. drop start (take k d)) (sym total) ∙ drop-take start (n - start) d in
    let some : length (take (n - start) (drop start d)) ≡ n - start = ap length (sym left) ∙ length-drop start v ∙ ap (λ k. k - start) long in
    let from = mask_drop (map stops v) start ∙ ap mask_l (drop-map stops start v ∙ ap (map stops) left) in
    found ∙ ap (λ m. first_set (m / 2 ^ start) (n - start)) mask ∙ ap (λ m. first_set m (n - start)) from
    ∙ run_is stops (take (n - start) (drop start d)) (n - start) some (omega arith)
    ∙ same_prefix stops q (λ b lt. agree_below_at stops (λ x. not (q x)) 256 b all lt) (n - start) (drop start d)
    (λ k. rw (get_or-drop start d k 0) (fits (start + k)).fits)

-- a run of the first n bytes that is not all of them
pub ends_short : (p : ℕ → Bool) (n r : ℕ) (d : List ℕ) → r ≡ prefix_len p (take n d) → r ≢ n → r < n
ends_short p n r d e other = omega (arith, e, other, prefix_len-le-length p (take n d), length-take n d)

-- a run that ends within the first n bytes
pub ends_within : (p : ℕ → Bool) (n : ℕ) (d : List ℕ) → n ≤ length d → prefix_len p (take n d) < n → prefix_len p d ≡ prefix_len p (take n d)
ends_within p zero d capacity short = absurd (omega arith)
ends_within p (suc n) [] capacity short = absurd (omega arith)
ends_within p (suc n) (x ∷ xs) capacity short =
    elim (cases_Bool (p x)) [
      | inl pass ↦ rw pass (omega (arith, ends_within p n xs (omega arith) (omega (arith, rw pass at short))))
      | inr stop ↦ rw stop refl
    ]

-- a run that includes the first n bytes
pub goes_past : (p : ℕ → Bool) (n : ℕ) (d : List ℕ) → n ≤ prefix_len p d → prefix_len p d ≡ n + prefix_len p (drop n d)
goes_past p zero d e = omega arith
goes_past p (suc n) [] e = absurd (omega arith)
goes_past p (suc n) (x ∷ xs) e =
    elim (cases_Bool (p x)) [
      | inl pass ↦ rw pass (omega (arith, goes_past p n xs (omega (arith, rw pass at e))))
      | inr stop ↦ absurd (omega (arith, rw stop at e))
    ]

-- the run of the first n bytes is no longer than that of all
pub front_run : (p : ℕ → Bool) (n : ℕ) (d : List ℕ) → prefix_len p (take n d) ≤ prefix_len p d
front_run p zero d = omega arith
front_run p (suc n) [] = omega arith
front_run p (suc n) (x ∷ xs) =
    elim (cases_Bool (p x)) [
      | inl pass ↦ rw pass (omega (arith, front_run p n xs))
      | inr stop ↦ rw stop (omega arith)
    ]

-- the run of some bytes, if others come after them
pub padded_run : (p : ℕ → Bool) (xs ys : List ℕ) → min (prefix_len p (xs ++ ys)) (length xs) ≡ prefix_len p xs
padded_run p [] ys = omega arith
padded_run p (x ∷ xs) ys =
    elim (cases_Bool (p x)) [
      | inl pass ↦ rw pass (omega (arith, padded_run p xs ys))
      | inr stop ↦ rw stop (omega arith)
    ]

-- the run of 8 to 15 bytes, by that of a load of the first 8 and the last 8 of them
module _ (p : ℕ → Bool) (d low high zeros : List ℕ) (run : ℕ) (few : 8 ≤ length d) (many : length d < 16) (first : low ≡ take 8 d)
    (last : high ≡ take (length d - (length d - 8)) (drop (length d - 8) d)) (is : run ≡ prefix_len p (take 16 (put_mid 8 8 (low ++ zeros) high))) where
  abbrev end : ℕ
  end = length d - 8

  long : length low ≡ 8
  long = ap length first ∙ length-take-le 8 d few

  ending : high ≡ drop end d
  ending = last ∙ take_all (length d - end) (drop end d) (omega (arith, length-drop end d))

  whole : take 16 (put_mid 8 8 (low ++ zeros) high) ≡ low ++ high
  whole = take-put_mid 8 8 (low ++ zeros) high 16 (omega (arith, ap length ending, length-drop end d)) (omega (arith, length-append low zeros, long))
      ∙ ap (λ l. l ++ high) (take_at low zeros 8 long)

  both : run ≡ prefix_len p (low ++ high)
  both = is ∙ ap (prefix_len p) whole

  front : min run 8 ≡ min (prefix_len p d) 8
  front =
      let all = padded_run p low (drop 8 d) in
      let same : low ++ drop 8 d ≡ d = ap (λ l. l ++ drop 8 d) first ∙ take-append-drop 8 d in
      rw (both, ← long) (padded_run p low high ∙ sym all ∙ ap (λ l. min (prefix_len p l) (length low)) same)

  pub run_most : run ≤ 16
  run_most = omega (arith, both, prefix_len-le-length p (low ++ high), length-append low high, long, ap length ending, length-drop end d)

  pub run_in_first : run < 8 → prefix_len p d ≡ run
  run_in_first short = omega (arith, front)

  pub run_in_last : 8 ≤ run → prefix_len p d + 8 ≡ end + run
  run_in_last all =
      let rest : drop 8 (low ++ high) ≡ drop end d = drop_at low high 8 long ∙ ending in
      let inside : prefix_len p (low ++ high) ≡ 8 + prefix_len p (drop end d) =
      goes_past p 8 (low ++ high) (omega (arith, both)) ∙ ap (λ l. 8 + prefix_len p l) rest in
      omega (arith, both, inside, goes_past p end d (omega (arith, front)))
