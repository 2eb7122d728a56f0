-- The bytes at the front of an input that pass a test.
use Rattle.std.specs.List.{prefix_len, list_all}
use Rattle.std.proofs.Common.{◌≡◌, ◌≢◌, ℕ, ◌<◌, ◌≤◌, Bool, true, false, ◌==◌, List, [], ◌∷◌, ◌++◌, length, get_or, take}
use Rattle.std.proofs.Common.{refl, sym, ap, ◌∙◌, inl, inr, arith}
use Rattle.std.proofs.lemmas.Bool.{cases_Bool, cases_eq, and_parts}
use Rattle.std.proofs.lemmas.Bool.Decides.{nat_tests}
use Rattle.std.proofs.lemmas.List.{take_at}

-- bytes that pass, before a byte that does not, are the run of the two
pub run : (p : ℕ → Bool) (xs rest : List ℕ) → list_all p xs ≡ true → p (get_or rest 0 0) ≡ false → prefix_len p (xs ++ rest) ≡ length xs
run p [] [] all stop = refl
run p [] (c ∷ rest) all stop = rw stop
run p (c ∷ xs) rest all stop =
    let (here, more) = and_parts (p c) (list_all p xs) all in
    rw here (omega (arith, run p xs rest more stop))

pub run_all : (p : ℕ → Bool) (xs : List ℕ) → list_all p xs ≡ true → prefix_len p xs ≡ length xs
run_all p [] all = refl
run_all p (c ∷ xs) all =
    let (here, more) = and_parts (p c) (list_all p xs) all in
    rw here (omega (arith, run_all p xs more))

-- the run at the front of a list, and what ends it
pub run_of : (p : ℕ → Bool) (xs : List ℕ) → (run : List ℕ) × (rest : List ℕ) × (xs ≡ run ++ rest) × (list_all p run ≡ true) × (prefix_len p xs ≡ length run)
    × (0 < length rest → p (get_or rest 0 0) ≡ false)
run_of p [] = ([], [], refl, refl, refl, λ h. absurd (omega arith))
run_of p (x ∷ xs) =
    elim (cases_Bool (p x)) [
      | inl pass ↦
          let r = run_of p xs in
          (x ∷ r.0, r.1, ap (λ l. x ∷ l) r.2, rw (pass, r.3) refl, rw (pass, r.4) (omega arith), r.5)
      | inr stop ↦ ([], x ∷ xs, refl, refl, rw stop refl, λ _. stop)
    ]

-- The run of bytes that pass a test is within that of another, if each byte that passes the one passes the other.
pub run_widens : (p q : ℕ → Bool) → ((b : ℕ) → p b ≡ true → q b ≡ true) → (xs : List ℕ)
    → prefix_len p xs ≤ prefix_len q xs
run_widens p q wider [] = omega arith
run_widens p q wider (c ∷ xs) =
    elim (cases_Bool (p c)) [
      | inl pass ↦ rw (pass, wider c pass) (omega (arith, run_widens p q wider xs))
      | inr other ↦ rw other (omega arith)
    ]

-- each byte of the run at the front passes
pub run_passes : (p : ℕ → Bool) (xs : List ℕ) (n : ℕ) → n ≡ prefix_len p xs → list_all p (take n xs) ≡ true
run_passes p xs n e =
    let r = run_of p xs in
    let run : take n xs ≡ r.0 = ap (take n) r.2 ∙ take_at r.0 r.1 n (sym (e ∙ r.4)) in
    rw run r.3

pub all_weaken : (p q : ℕ → Bool) → ((b : ℕ) → p b ≡ true → q b ≡ true) → (xs : List ℕ) → list_all p xs ≡ true → list_all q xs ≡ true
all_weaken p q h [] all = refl
all_weaken p q h (c ∷ xs) all =
    let (here, more) = and_parts (p c) (list_all p xs) all in
    rw (h c here, all_weaken p q h xs more) refl

pub all_append : (p : ℕ → Bool) (xs ys : List ℕ) → list_all p xs ≡ true → list_all p ys ≡ true → list_all p (xs ++ ys) ≡ true
all_append p [] ys all h = h
all_append p (c ∷ xs) ys all h =
    let (here, more) = and_parts (p c) (list_all p xs) all in
    rw (here, all_append p xs ys more h) refl

pub not_equal : (a b : ℕ) → a ≢ b → (a == b) ≡ false
not_equal a b h = grind (arith, nat_tests)

-- a byte that passes differs from one that does not
pub differs : (p : ℕ → Bool) (b k : ℕ) → p b ≡ true → p k ≡ false → (b == k) ≡ false
differs p b k h other =
    elim (cases_eq b k) [
      | inl e ↦ absurd (let same : p b ≡ p k = ap p e in cc)
      | inr d ↦ not_equal b k d
    ]
