-- Bytes without white space at their end.
use Rattle.std.specs.Char.{is_ascii_whitespace}
use Rattle.std.proofs.Common.{◌≡◌, ℕ, zero, suc, ◌-◌, ◌<◌, ◌≤◌, Bool, true, false, cond, List, [], ◌∷◌, ◌++◌, length, take, get_or}
use Rattle.std.proofs.Common.{refl, sym, ap, ◌∙◌, subst, arith}
use Rattle.graphql_fmt.specs.Keeping.{trimmed_after, trimmed}

-- white space at the end goes
pub trimmed_white : (v w : List ℕ) → trimmed w ≡ [] → trimmed (v ++ w) ≡ trimmed v
trimmed_white [] w h = h
trimmed_white (b ∷ v) w h = ap (trimmed_after b) (trimmed_white v w h)

alone : (t : Bool) (b : ℕ) → is_ascii_whitespace b ≡ t → trimmed (cond t [] (b ∷ [])) ≡ cond t [] (b ∷ [])
alone true b e = refl
alone false b e = rw e refl

-- what is trimmed stays
stays_after : (b : ℕ) (r : List ℕ) → trimmed r ≡ r → trimmed (trimmed_after b r) ≡ trimmed_after b r
stays_after b [] h = alone (is_ascii_whitespace b) b refl
stays_after b (c ∷ cs) h = ap (trimmed_after b) h

pub trimmed_stays : (v : List ℕ) → trimmed (trimmed v) ≡ trimmed v
trimmed_stays [] = refl
trimmed_stays (b ∷ v) = stays_after b (trimmed v) (trimmed_stays v)

-- ---- what is left by its length

all_white : (s : List ℕ) → ((k : ℕ) → k < length s → is_ascii_whitespace (get_or s k 0) ≡ true) → trimmed s ≡ []
all_white [] h = refl
all_white (b ∷ s) h = ap (trimmed_after b) (all_white s (λ k l. h (suc k) (omega arith))) ∙ rw (h 0 (omega arith)) refl

front_stays : (b m : ℕ) (s : List ℕ) → m ≤ length s → is_ascii_whitespace (get_or (b ∷ s) m 0) ≡ false → b ∷ take m s ≡ trimmed_after b (take m s)
front_stays b zero s l h = rw h refl
front_stays b (suc m) [] l h = absurd (omega arith)
front_stays b (suc m) (c ∷ s) l h = refl

before_last : (b m : ℕ) (s : List ℕ) → is_ascii_whitespace (get_or (b ∷ s) m 0) ≡ false → 0 < m → is_ascii_whitespace (get_or s (m - 1) 0) ≡ false
before_last b zero s h some = absurd (omega arith)
before_last b (suc m) s h some = let same : suc m - 1 ≡ m = omega arith in rw same h

pub trimmed_is : (s : List ℕ) (n : ℕ) → n ≤ length s → ((k : ℕ) → n ≤ k → k < length s → is_ascii_whitespace (get_or s k 0) ≡ true)
    → (0 < n → is_ascii_whitespace (get_or s (n - 1) 0) ≡ false) → take n s ≡ trimmed s
trimmed_is [] zero l white some = refl
trimmed_is [] (suc n) l white some = absurd (omega arith)
trimmed_is (b ∷ s) zero l white some = sym (all_white (b ∷ s) (λ k h. white k (omega arith) h))
trimmed_is (b ∷ s) (suc m) l white some =
    let same : suc m - 1 ≡ m = omega arith in
    let last : is_ascii_whitespace (get_or (b ∷ s) m 0) ≡ false = subst (λ k. is_ascii_whitespace (get_or (b ∷ s) k 0) ≡ false) same (some (omega arith)) in
    front_stays b m s (omega arith) last
    ∙ ap (trimmed_after b) (trimmed_is s m (omega arith) (λ k h i. white (suc k) (omega arith) (omega arith)) (before_last b m s last))
