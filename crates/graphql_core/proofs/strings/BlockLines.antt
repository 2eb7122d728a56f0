-- Lines of block strings: indents, outer blank lines, escapes, and what is written of the lines.
use Rattle.std.specs.List.{filter, reduce, fold, enumerate_from, prefix_len, suffix_len, join_by, flat_map}
use Rattle.std.specs.Result.{is_ok, OnOk}
use Rattle.std.proofs.Common.{◌≡◌, ◌≢◌, ◌&&◌, ℕ, zero, suc, ◌+◌, ◌-◌, ◌<◌, ◌≤◌, ◌⊎◌, min, Bool, true, false, not, ◌==◌, if◌then◌else◌, List, [], ◌∷◌, ◌++◌}
use Rattle.std.proofs.Common.{length, map, get_or, take, drop, Result, Ok, Err, refl, sym, ap, ◌∙◌, inl, inr, arith, append_assoc}
use Rattle.std.proofs.Math.Nat.{min-le_left, min-le_right, min-zero}
use Rattle.std.proofs.lemmas.Bool.{and_parts, cases_Bool, eqb-true, false_from_ne_true, false≢true, ne_eqb}
use Rattle.std.proofs.lemmas.Bool.Decides.{nat_tests}
use Rattle.std.proofs.lemmas.List.{drop_min, take_all, drop_all, take-map, drop-map, append-nil, flat_map_more, take_more, length-take-le}
use Rattle.std.proofs.lemmas.List.Folds.{flat_map-map}
use Rattle.std.proofs.lemmas.List.Sums.{prefix_len-le-length, prefix_len_passes, suffix_len-take_no, suffix_len-take_yes}
use Rattle.std.proofs.lemmas.List.FromFn.{length-enumerate_from, get_or-enumerate_from}
use Rattle.std.proofs.lemmas.Str.{IsCharBoundary-start, IsCharBoundary-after_ascii}
use Rattle.graphql_core.specs.{begins_escape, begins_quotes, is_white, is_blank_line, indent, common_indent, unindented, unescaped, value_of_lines}
use Rattle.std.specs.Option.{unwrap_or}
use Rattle.std.specs.Str.{IsUtf8, IsCharBoundary}

-- ---- indents

white_small : (b : ℕ) → is_white b ≡ true → b < 128
white_small b h = grind (arith, nat_tests)

-- there is a character boundary at each byte of the indent of a line
pub boundary_in_indent : (line : List ℕ) (n : ℕ) → IsUtf8 line → n ≤ indent line → IsCharBoundary line n
boundary_in_indent line zero u h = IsCharBoundary-start line u
boundary_in_indent line (suc n) u h =
    let within = prefix_len-le-length is_white line in
    let small = white_small (get_or line n 0) (prefix_len_passes is_white line n 0 (omega arith)) in
    let at = IsCharBoundary-after_ascii line n u (omega arith) small in
    let same : suc n ≡ n + 1 = omega arith in
    rw same at

pub blank_indent : (line : List ℕ) → is_blank_line line ≡ true → indent line ≡ length line
blank_indent [] h = refl
blank_indent (b ∷ bs) h =
    let (here, others) = and_parts (is_white b) (is_blank_line bs) h in
    rw here (omega (arith, blank_indent bs others))

-- each line is indented by at least this number, or is blank
Fits : ℕ → List (List ℕ) → Type 0
Fits n [] = Unit {0}
Fits n (l ∷ ls) = ((n ≤ indent l) ⊎ (is_blank_line l ≡ true)) × Fits n ls

no_lines : (n : ℕ) → Fits n []
unfolding Fits
no_lines n = tt

abbrev pub has_text : List ℕ → Bool
has_text l = not (is_blank_line l)

fold_le : (a : ℕ) (xs : List ℕ) → fold min a xs ≤ a
fold_le a [] = omega arith
fold_le a (x ∷ xs) = let h = fold_le (min a x) xs in let k = min-le_left a x in omega arith

-- the least of a number and the indents of lines that are not blank
abbrev least : ℕ → List (List ℕ) → ℕ
least a ls = fold min a (map indent (filter has_text ls))

fits_blank : (n : ℕ) (l : List ℕ) (ls : List (List ℕ)) → is_blank_line l ≡ true → Fits n ls → Fits n (l ∷ ls)
unfolding Fits
fits_blank n l ls h f = (inr h, f)

fits_text : (n : ℕ) (l : List ℕ) (ls : List (List ℕ)) → n ≤ indent l → Fits n ls → Fits n (l ∷ ls)
unfolding Fits
fits_text n l ls h f = (inl h, f)

least_blank : (a : ℕ) (l : List ℕ) (ls : List (List ℕ)) → is_blank_line l ≡ true → filter has_text (l ∷ ls) ≡ filter has_text ls
least_blank a l ls h = rw h refl

least_text : (l : List ℕ) (ls : List (List ℕ)) → is_blank_line l ≡ false → filter has_text (l ∷ ls) ≡ l ∷ filter has_text ls
least_text l ls h = rw h refl

fold_fits : (ls : List (List ℕ)) (a : ℕ) → Fits (least a ls) ls
fold_fits [] a = no_lines (least a [])
fold_fits (l ∷ ls) a = elim (cases_Bool (is_blank_line l)) [
  | inl h ↦ fits_blank _ l ls h (rw (least_blank a l ls h) (fold_fits ls a))
  | inr h ↦ rw (least_text l ls h) (
      let low = fold_le (min a (indent l)) (map indent (filter has_text ls)) in
      let here = min-le_right a (indent l) in
      fits_text (least (min a (indent l)) ls) l ls (omega arith) (fold_fits ls (min a (indent l))))
]

reduce_fits : (ls : List (List ℕ)) → Fits (unwrap_or (reduce min (map indent (filter has_text ls))) 0) ls
reduce_fits [] = no_lines 0
reduce_fits (l ∷ ls) = elim (cases_Bool (is_blank_line l)) [
  | inl h ↦ fits_blank _ l ls h (rw (least_blank 0 l ls h) (reduce_fits ls))
  | inr h ↦ rw (least_text l ls h) (fits_text (least (indent l) ls) l ls (fold_le (indent l) (map indent (filter has_text ls))) (fold_fits ls (indent l)))
]

-- ---- the last line that is not blank

-- the next of the numbered lines
pub numbered : (ls : List (List ℕ)) (k i : ℕ) (l : List ℕ) → (k < length (enumerate_from 0 ls)) × ((i, l) ≡ get_or (enumerate_from 0 ls) k (i, l))
    → (k < length ls) × (i ≡ k) × (l ≡ get_or ls k l)
numbered ls k i l (h, e) =
    let within : k < length ls = omega (arith, h, length-enumerate_from 0 ls) in
    let at = e ∙ get_or-enumerate_from 0 ls k (i, l) within in
    let place = ap (λ (p : ℕ × List ℕ). p.0) at in
    (within, omega arith, ap (λ (p : ℕ × List ℕ). p.1) at)

pub through_text : (ls : List (List ℕ)) (k n : ℕ) (l : List ℕ) → k < length ls → l ≡ get_or ls k l → n ≡ k + 1 → is_blank_line l ≡ false
    → k + 1 ≡ n - suffix_len is_blank_line (take n ls)
through_text ls k n l h e step blank =
    let before : n - 1 ≡ k = omega arith in
    let none =
    suffix_len-take_no is_blank_line ls n l (omega arith) (omega arith) (ap (λ j. is_blank_line (get_or ls j l)) before ∙ ap is_blank_line (sym e) ∙ blank) in
    omega (arith, none)

pub through_blank : (ls : List (List ℕ)) (k n : ℕ) (l : List ℕ) → k < length ls → l ≡ get_or ls k l → n ≡ k + 1 → is_blank_line l ≡ true
    → k - suffix_len is_blank_line (take k ls) ≡ n - suffix_len is_blank_line (take n ls)
through_blank ls k n l h e step blank =
    let before : n - 1 ≡ k = omega arith in
    let one =
    suffix_len-take_yes is_blank_line ls n l (omega arith) (omega arith) (ap (λ j. is_blank_line (get_or ls j l)) before ∙ ap is_blank_line (sym e) ∙ blank) in
    let same = ap (λ j. suffix_len is_blank_line (take j ls)) before in
    omega (arith, one, same)

-- ---- escapes of three quotes

pub no_quotes : (s : List ℕ) → ((rest : List ℕ) → s ≢ 34 ∷ 34 ∷ 34 ∷ rest) → begins_quotes s ≡ false
no_quotes [] h = refl
no_quotes (a ∷ []) h = refl
no_quotes (a ∷ b ∷ []) h = refl
no_quotes (a ∷ b ∷ c ∷ s) h = false_from_ne_true (begins_quotes (a ∷ b ∷ c ∷ s)) (λ e.
    let (first, more) = and_parts (a == 34) (b == 34 && c == 34) e in
    let (second, third) = and_parts (b == 34) (c == 34) more in
    let x = eqb-true a 34 first in
    let y = eqb-true b 34 second in
    let z = eqb-true c 34 third in
    h s (cc))

no_escape : (s : List ℕ) → ((rest : List ℕ) → s ≢ 92 ∷ 34 ∷ 34 ∷ 34 ∷ rest) → begins_escape s ≡ false
no_escape [] h = refl
no_escape (a ∷ s) h = false_from_ne_true (begins_escape (a ∷ s)) (λ e.
    let (first, more) = and_parts (a == 92) (begins_quotes s) e in
    let x = eqb-true a 92 first in
    false≢true (sym (no_quotes s (λ rest q. h rest (cc))) ∙ more))

-- what comes before the first escape stays the same
plain_before : (s : List ℕ) (i : ℕ) → i ≤ length s → ((k : ℕ) → k < i → (rest : List ℕ) → drop k s ≢ 92 ∷ 34 ∷ 34 ∷ 34 ∷ rest) → unescaped s ≡ take i s
    ++ unescaped (drop i s)
plain_before s zero h none = refl
plain_before [] (suc i) h none = absurd (omega arith)
plain_before (b ∷ s) (suc i) h none =
    rw (no_escape (b ∷ s) (none 0 (omega arith))) (ap (λ t. b ∷ t) (plain_before s i (omega arith) (λ k l. none (suc k) (omega arith))))

pub unescaped_at : (s : List ℕ) (i j : ℕ) → i ≤ length s → ((k : ℕ) → k < i → (rest : List ℕ) → drop k s ≢ 92 ∷ 34 ∷ 34 ∷ 34 ∷ rest) → drop i s ≡ 92 ∷ 34
    ∷ 34 ∷ 34 ∷ drop j s → unescaped s ≡ take i s ++ (34 ∷ 34 ∷ 34 ∷ unescaped (drop j s))
unescaped_at s i j h none e = plain_before s i h none ∙ ap (λ t. take i s ++ unescaped t) e

pub unescaped_none : (s : List ℕ) → ((k : ℕ) → k ≤ length s → (rest : List ℕ) → drop k s ≢ 92 ∷ 34 ∷ 34 ∷ 34 ∷ rest) → unescaped s ≡ s
unescaped_none s none =
    plain_before s (length s) (omega arith) (λ k l. none k (omega arith))
    ∙ rw (drop_all (length s) s (omega arith), take_all (length s) s (omega arith)) (append-nil s)

-- what `push_str` appends completes a string
pub completed : {T E : Type 0} (r : Result T E) (s before text whole : List ℕ) → s ≡ (if is_ok r then before ++ text else before) → before ++ text ≡ whole
    → OnOk r (s ≡ whole)
completed (Ok x) s before text whole e h = e ∙ h
completed (Err x) s before text whole e h = tt

-- ---- what is written of the lines

-- what is written of a numbered line
abbrev pub piece : ℕ → ℕ × List ℕ → List ℕ
piece n p = unescaped (drop (min (indent p.1) (if p.0 == 0 then 0 else n)) p.1)

-- the numbered lines from `first` up to `through`
abbrev pub kept : ℕ → ℕ → List (List ℕ) → List (ℕ × List ℕ)
kept first through ls = drop first (take through (enumerate_from 0 ls))

join_map : {A : Type 0} (f : A → List ℕ) (sep : List ℕ) (xs : List A) → join_by f sep xs ≡ join_by (λ (x : List ℕ). x) sep (map f xs)
join_map f sep [] = refl
join_map f sep (x ∷ xs) = ap (λ t. f x ++ t) (sym (flat_map-map (λ y. sep ++ y) f xs))

join_push : {A : Type 0} (f : A → List ℕ) (sep : List ℕ) (xs : List A) (x : A) → 0 < length xs → join_by f sep (xs ++ x ∷ []) ≡ join_by f sep xs ++ (sep ++ f x)
join_push f sep [] x h = absurd (omega arith)
join_push f sep (y ∷ ys) x h = ap (λ t. f y ++ t) (sym (flat_map_more (λ z. sep ++ f z) [] ys x))
    ∙ sym (append_assoc (f y) (flat_map (λ z. sep ++ f z) ys) (sep ++ f x))

removed : (n : ℕ) (l : List ℕ) → (n ≤ indent l) ⊎ (is_blank_line l ≡ true) → drop (min (indent l) n) l ≡ drop n l
removed n l (inl h) = let e : min (indent l) n ≡ n = omega arith in ap (λ k. drop k l) e
removed n l (inr h) =
    let e : min (indent l) n ≡ min n (length l) = omega (arith, blank_indent l h) in
    ap (λ k. drop k l) e ∙ drop_min n l

later : (n m : ℕ) (ls : List (List ℕ)) → Fits n ls → map (piece n) (enumerate_from (m + 1) ls) ≡ map unescaped (map (drop n) ls)
unfolding Fits
later n m [] h = refl
later n m (l ∷ ls) (here, others) =
    let after : (m + 1 == 0) ≡ false = ne_eqb (m + 1) 0 (λ e. omega arith) in
    rw (after, removed n l here, later n (m + 1) ls others) refl

first_piece : (n : ℕ) (l : List ℕ) → piece n (0, l) ≡ unescaped l
first_piece n l = rw (min-zero (indent l)) refl

pieces_are : (ls : List (List ℕ)) → map (piece (common_indent ls)) (enumerate_from 0 ls) ≡ map unescaped (unindented (common_indent ls) ls)
unfolding common_indent
pieces_are [] = refl
pieces_are (l ∷ ls) =
    let n = common_indent (l ∷ ls) in
    rw (first_piece n l) (ap (λ t. unescaped l ∷ t) (later n 0 ls (reduce_fits ls)))

-- the lines between the outer blank lines, without their indent
pub pieces_kept : (ls : List (List ℕ))
    → join_by (piece (common_indent ls)) (10 ∷ []) (kept (prefix_len is_blank_line ls) (length ls - suffix_len is_blank_line ls) ls) ≡ value_of_lines ls
pieces_kept ls =
    let n = common_indent ls in
    let first = prefix_len is_blank_line ls in
    let through = length ls - suffix_len is_blank_line ls in
    let numbers = enumerate_from 0 ls in
    let raw = unindented n ls in
    let same : map (piece n) (drop first (take through numbers)) ≡ map unescaped (drop first (take through raw)) =
    sym (drop-map (piece n) first (take through numbers))
    ∙ ap (drop first) (sym (take-map (piece n) through numbers) ∙ ap (take through) (pieces_are ls) ∙ take-map unescaped through raw)
    ∙ drop-map unescaped first (take through raw)
    in
    join_map (piece n) (10 ∷ []) (kept first through ls) ∙ ap (join_by (λ (x : List ℕ). x) (10 ∷ [])) same
    ∙ sym (join_map unescaped (10 ∷ []) (drop first (take through raw)))

one_more : (zs : List (ℕ × List ℕ)) (k : ℕ) (p : ℕ × List ℕ) → k < length zs → p ≡ get_or zs k p → take (k + 1) zs ≡ take k zs ++ p ∷ []
one_more zs k p h e = take_more zs k p h ∙ ap (λ q. take k zs ++ q ∷ []) (sym e)

-- one more line is written, the first or a later one
pub first_written : (n : ℕ) (zs : List (ℕ × List ℕ)) (k : ℕ) (p : ℕ × List ℕ) → k < length zs → p ≡ get_or zs k p → k ≡ 0
    → join_by (piece n) (10 ∷ []) (take (k + 1) zs) ≡ join_by (piece n) (10 ∷ []) (take k zs) ++ piece n p
first_written n zs k p h e zero_k = rw (one_more zs k p h e, zero_k) (append-nil (piece n p))

pub later_written : (n : ℕ) (zs : List (ℕ × List ℕ)) (k : ℕ) (p : ℕ × List ℕ) → k < length zs → p ≡ get_or zs k p → 0 < k
    → join_by (piece n) (10 ∷ []) (take (k + 1) zs) ≡ (join_by (piece n) (10 ∷ []) (take k zs) ++ 10 ∷ []) ++ piece n p
later_written n zs k p h e more =
    let some = length-take-le k zs (omega arith) in
    ap (join_by (piece n) (10 ∷ [])) (one_more zs k p h e)
    ∙ join_push (piece n) (10 ∷ []) (take k zs) p (omega arith)
    ∙ sym (append_assoc (join_by (piece n) (10 ∷ []) (take k zs)) (10 ∷ []) (piece n p))

-- ---- tokens
