-- Writes at places of one buffer, one after another.
use Rattle.std.proofs.Common.{◌≡◌, ℕ, ◌+◌, ◌-◌, ◌≤◌, List, ◌++◌, length, take, drop, ap, sym, ◌∙◌, arith, append_assoc, length-append, length-take-le}
use Rattle.std.proofs.Common.{take-add, take-take, take_at, drop_at, take_all, refl}
use Rattle.std.proofs.lemmas.List.{length-take, take-append-le}
use borrow.Rule.Slice.PartMut.{mid_of, post_of, put_mid, same_len_mid}
use Rattle.graphql_core.specs.{Placed}

-- a second write begins where the first ended
pub Placed-then : {a b c xs ys : List ℕ} {i j k : ℕ} → Placed a b i xs j → Placed b c j ys k → Placed a c i (xs ++ ys) k
Placed-then {a} {b} {c} {xs} {ys} {i} p q = record {
  bytes = q.bytes ∙ ap (λ l. l ++ ys) p.bytes ∙ append_assoc (take i a) xs ys;
  moved = omega (arith, p.moved, q.moved, length-append xs ys);
  len = q.len ∙ p.len;
}

-- only the first n bytes of a write are kept
pub Placed-less : {a b xs : List ℕ} {i j : ℕ} (n : ℕ) → i ≤ length a → n ≤ length xs → Placed a b i xs j → Placed a b i (take n xs) (i + n)
Placed-less {a} {b} {xs} {i} {j} n within few p =
    let front = length-take-le i a within in
    record {
      bytes = sym (take-take (i + n) j b (omega (arith, p.moved))) ∙ ap (take (i + n)) p.bytes ∙ take-add i n (take i a ++ xs)
          ∙ (λ k. take_at (take i a) xs i front k ++ take n (drop_at (take i a) xs i front k));
      moved = omega (arith, length-take-le n xs few);
      len = p.len;
    }

-- after the first n bytes of src, `more` of its bytes from index m on, which is not behind these n
pub Placed-on : {a b c : List ℕ} {i j k h : ℕ} (src : List ℕ) (n m more : ℕ) → i ≤ length a → m ≤ n → n ≤ length src
    → Placed a b i (take n src) j → Placed b c h (take more (drop m src)) k → h ≡ i + m → Placed a c i (take (m + more) src) k
Placed-on {a} {b} {c} {i} {j} {k} src n m more within begins fits p q e =
    let both = Placed-then (Placed-less m within (omega (arith, length-take-le n src fits)) p) (rw e at q) in
    let whole : take m (take n src) ++ take more (drop m src) ≡ take (m + more) src =
    (λ x. take-take m n src begins x ++ take more (drop m src)) ∙ sym (take-add m more src) in
    record { bytes = both.bytes ∙ ap (λ l. take i a ++ l) whole; moved = both.moved ∙ ap (λ l. i + length l) whole; len = both.len }

-- the first and the last `half` bytes of src, written over each other, are src
pub Placed-ends : {a b c : List ℕ} {i j k : ℕ} (src : List ℕ) (half : ℕ) → i ≤ length a → half ≤ length src → length src ≤ half + half
    → Placed a b i (take half src) j → Placed b c (i + (length src - half)) (take half (drop (length src - half) src)) k → Placed a c i src k
Placed-ends {a} {b} {c} {i} {j} {k} src half within fits covers p q =
    let all = take_all (length src - half + half) src (omega (arith, fits)) in
    rw all at (Placed-on src half (length src - half) half within (omega arith) fits p q refl)

-- a write to the front of the part of a from index i on
pub Placed-part : {a c xs : List ℕ} {k : ℕ} (i n : ℕ) → i ≤ length a → Placed (mid_of i n a) c 0 xs k → Placed a (put_mid i n a c) i xs (i + length xs)
Placed-part {a} {c} {xs} {k} i n within p =
    let front = length-take-le i a within in
    let rest = c ++ post_of i n a in
    let fits : length xs ≤ length c = omega (arith, ap length p.bytes, length-take k c, p.moved) in
    let moved : length xs ≡ k = omega (arith, p.moved) in
    let first : take (length xs) rest ≡ xs = take-append-le (length xs) c (post_of i n a) fits ∙ ap (λ m. take m c) moved ∙ p.bytes in
    record {
      bytes = take-add i (length xs) (put_mid i n a c)
          ∙ (λ j. take_at (take i a) rest i front j ++ take (length xs) (drop_at (take i a) rest i front j)) ∙ ap (λ l. take i a ++ l) first;
      moved = refl;
      len = same_len_mid i n a c p.len;
    }
