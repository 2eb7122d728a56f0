-- The lines of a block string one by one, and the shape of the first lines.
use Rattle.std.specs.List.{filter, reduce, enumerate_from, onto_first, prefix_len, suffix_len}
use Rattle.std.specs.Option.{MatchOption, unwrap_or}
use Rattle.std.specs.Str.Lines.{lines, lines_of_parts, strip_carriage_return}
use Rattle.std.proofs.Common.{◌≡◌, ◌≢◌, ℕ, zero, suc, ◌+◌, ◌-◌, ◌<◌, ◌≤◌, min, true, false, ◌==◌, if◌then◌else◌, List, [], ◌∷◌, ◌++◌, Bor}
use Rattle.std.proofs.Common.{length, map, get_or, take, drop, Option, Some, None, refl, sym, ap, ◌∙◌, inl, inr, arith, zero-add, add-zero, eqb-true}
use Rattle.std.proofs.Common.{length-append, length-drop}
use Rattle.std.proofs.Math.Seq.{take-append_seam, get_or-append_seam}
use Rattle.std.proofs.lemmas.Bool.{cases_Bool, ne_eqb}
use Rattle.std.proofs.lemmas.List.{take_all, take_more, drop-drop, append-nil, map-append, get_or-take, get_or-drop, length-take, length-take-le}
use Rattle.std.proofs.lemmas.List.Elements.{filter-append}
use Rattle.std.proofs.lemmas.List.Folds.{prefix_len-append}
use Rattle.std.proofs.lemmas.List.FromFn.{length-enumerate_from, get_or-enumerate_from}
use Rattle.std.proofs.lemmas.List.Sums.{fold-append}
use Rattle.graphql_core.specs.declared.common.strings.block.BlockShape.{BlockShape}
use Rattle.graphql_core.specs.{is_white, is_blank_line, indent, common_indent, unescaped, lines_of}
use Rattle.graphql_core.specs.steps.BlockShape.{IsShape, least_indent}
use Rattle.graphql_core.proofs.lexical.Runs.{run_passes}
use Rattle.graphql_core.proofs.strings.BlockLines.{blank_indent, kept, through_text, through_blank, unescaped_none, has_text}

-- ---- the first line of a string

some_line : (text : List ℕ) → (l : List ℕ) × (ls : List (List ℕ)) × (lines_of text ≡ l ∷ ls)
some_line [] = ([], [], refl)
some_line (b ∷ bs) = elim (cases_Bool (b == 10)) [
  | inl feed ↦ ([], lines_of bs, rw feed refl)
  | inr other ↦
      let (l, ls, e) = some_line bs in
      (b ∷ l, ls, rw other (ap (onto_first b) e))
]

stripped_some : (line front : List ℕ) → line ≡ front ++ 13 ∷ [] → front ≡ strip_carriage_return line
stripped_some line front e =
    let long : length line - 1 ≡ length front = omega (arith, ap length e, length-append front (13 ∷ [])) in
    let last : get_or line (length line - 1) 0 ≡ 13 =
    ap (λ n. get_or line n 0) long ∙ ap (λ l. get_or l (length front) 0) e ∙ get_or-append_seam front 13 [] 0 in
    rw last (sym (ap (λ n. take n line) long ∙ ap (take (length front)) e ∙ take-append_seam front (13 ∷ [])))

ends_in : (line : List ℕ) (b : ℕ) → 0 < length line → get_or line (length line - 1) 0 ≡ b → line ≡ take (length line - 1) line ++ b ∷ []
ends_in line b some is =
    let n = length line - 1 in
    sym (take_all (n + 1) line (omega arith)) ∙ take_more line n 0 (omega arith) ∙ ap (λ c. take n line ++ c ∷ []) is

stripped_none : (line : List ℕ) → ((front : List ℕ) → line ≢ front ++ 13 ∷ []) → line ≡ strip_carriage_return line
stripped_none [] none = refl
stripped_none (b ∷ bs) none = elim (cases_Bool (get_or (b ∷ bs) (length (b ∷ bs) - 1) 0 == 13)) [
  | inl is ↦ absurd (none (take (length (b ∷ bs) - 1) (b ∷ bs)) (ends_in (b ∷ bs) 13 (omega arith) (eqb-true _ 13 is)))
  | inr other ↦ rw other refl
]

-- a line loses one carriage return at its end
pub stripped : (line : List ℕ) (r : Option (Bor (List ℕ))) (whole : Bor (List ℕ)) → whole.now ≡ line
    → MatchOption r ((front : List ℕ) → line ≢ front ++ (13 ∷ [])) (λ x. line ≡ x.now ++ (13 ∷ [])) → (unwrap_or r whole).now ≡ strip_carriage_return line
stripped line None whole is h = is ∙ stripped_none line h
stripped line (Some x) whole is h = stripped_some line x.now h

-- the first line, before a line feed
pub line_and_rest : (text line rest : List ℕ) → lines_of text ≡ line ∷ lines_of rest → lines text ≡ strip_carriage_return line ∷ lines rest
line_and_rest text line rest h =
    let (l, ls, e) = some_line rest in
    ap lines_of_parts (h ∙ ap (λ r. line ∷ r) e) ∙ ap (λ r. strip_carriage_return line ∷ lines_of_parts r) (sym e)

empty_line : (text : List ℕ) → 0 < length text → lines_of text ≢ [] ∷ []
empty_line [] some h = absurd (omega arith)
empty_line (b ∷ bs) some h =
    let (l, ls, e) = some_line bs in
    elim (cases_Bool (b == 10)) [
      | inl feed ↦
          let two : [] ∷ l ∷ ls ≡ [] ∷ [] = rw (feed, e) at h in
          absurd (omega (arith, ap length two))
      | inr other ↦
          let one : (b ∷ l) ∷ ls ≡ [] ∷ [] = rw (other, e) at h in
          absurd (omega (arith, ap (λ xs. length (get_or xs 0 [])) one))
    ]

-- the only line
pub line_alone : (text line : List ℕ) → 0 < length text → lines_of text ≡ line ∷ [] → lines text ≡ line ∷ lines []
line_alone text [] some h = absurd (empty_line text some h)
line_alone text (b ∷ bs) some h = ap lines_of_parts h ∙ rw (ne_eqb (length (b ∷ bs)) 0 (λ e. omega arith)) refl

-- ---- the lines that are left

pub some_left : (ls : List (List ℕ)) (k : ℕ) (rest : List ℕ) → drop k ls ≡ lines rest → k < length ls → 0 < length rest
some_left ls k [] e h = absurd (omega (arith, ap length e, length-drop k ls))
some_left ls k (b ∷ bs) e h = omega arith

pub none_left : (ls : List (List ℕ)) (k : ℕ) (rest : List ℕ) → drop k ls ≡ lines rest → length rest ≡ 0 → length ls ≤ k
none_left ls k [] e h = omega (arith, ap length e, length-drop k ls)
none_left ls k (b ∷ bs) e h = absurd (omega arith)

module _ (ls : List (List ℕ)) (k : ℕ) (rest line after : List ℕ) (left : drop k ls ≡ lines rest) (first : lines rest ≡ line ∷ lines after) where
  pub is_within : k < length ls
  is_within = omega (arith, ap length (left ∙ first), length-drop k ls)

  pub line_at : line ≡ get_or ls k []
  line_at = ap (λ xs. get_or xs 0 []) (sym (left ∙ first)) ∙ get_or-drop k ls 0 [] ∙ ap (λ n. get_or ls n []) (add-zero k)

  pub left_after : drop (k + 1) ls ≡ lines after
  left_after = sym (drop-drop 1 k ls) ∙ ap (drop 1) (left ∙ first)

-- ---- shapes

abbrev least : List (List ℕ) → Option ℕ
least ls = reduce min (map indent (filter has_text ls))

any_default : (ls : List (List ℕ)) (k : ℕ) (a b : List ℕ) → k < length ls → get_or ls k a ≡ get_or ls k b
any_default [] k a b h = absurd (omega arith)
any_default (l ∷ ls) zero a b h = refl
any_default (l ∷ ls) (suc k) a b h = any_default ls k a b (omega arith)

drop_first : (xs ys : List (List ℕ)) → 0 < length xs → drop 1 (xs ++ ys) ≡ drop 1 xs ++ ys
drop_first [] ys h = absurd (omega arith)
drop_first (x ∷ xs) ys h = refl

none_after_first : (ls : List (List ℕ)) → drop 1 (take 1 ls) ≡ []
none_after_first [] = refl
none_after_first (l ∷ ls) = refl

one_more : (ls : List (List ℕ)) (k : ℕ) → k < length ls → 0 < k → drop 1 (take (k + 1) ls) ≡ drop 1 (take k ls) ++ get_or ls k [] ∷ []
one_more ls k h some =
    ap (drop 1) (take_more ls k [] h) ∙ drop_first (take k ls) (get_or ls k [] ∷ []) (omega (arith, length-take-le k ls (omega arith)))

least_blank : (xs : List (List ℕ)) (l : List ℕ) → is_blank_line l ≡ true → least (xs ++ l ∷ []) ≡ least xs
least_blank xs l h =
    let none : filter has_text (l ∷ []) ≡ [] = rw h refl in
    ap (λ ys. reduce min (map indent ys))
    (filter-append has_text xs (l ∷ []) ∙ ap (λ ys. filter has_text xs ++ ys) none ∙ append-nil (filter has_text xs))

reduce_more : (xs : List ℕ) (n : ℕ) → reduce min (xs ++ n ∷ []) ≡ Some (least_indent (reduce min xs) n)
reduce_more [] n = refl
reduce_more (x ∷ xs) n = ap Some (fold-append min x xs (n ∷ []))

least_text : (xs : List (List ℕ)) (l : List ℕ) → is_blank_line l ≡ false → least (xs ++ l ∷ []) ≡ Some (least_indent (least xs) (indent l))
least_text xs l h =
    let one : filter has_text (l ∷ []) ≡ l ∷ [] = rw h refl in
    ap (λ ys. reduce min (map indent ys)) (filter-append has_text xs (l ∷ []) ∙ ap (λ ys. filter has_text xs ++ ys) one)
    ∙ ap (reduce min) (map-append indent (filter has_text xs) (l ∷ [])) ∙ reduce_more (map indent (filter has_text xs)) (indent l)

indent_blank : (ls : List (List ℕ)) (k : ℕ) → k < length ls → is_blank_line (get_or ls k []) ≡ true
    → least (drop 1 (take (k + 1) ls)) ≡ least (drop 1 (take k ls))
indent_blank ls zero h b = ap least (none_after_first ls)
indent_blank ls (suc k) h b = ap least (one_more ls (suc k) h (omega arith)) ∙ least_blank (drop 1 (take (suc k) ls)) (get_or ls (suc k) []) b

first_more : (ls : List (List ℕ)) (k : ℕ) → k < length ls → prefix_len is_blank_line (take (k + 1) ls)
    ≡ (if prefix_len is_blank_line (take k ls) == k then k + prefix_len is_blank_line (get_or ls k [] ∷ []) else prefix_len is_blank_line (take k ls))
first_more ls k h =
    let long : length (take k ls) ≡ k = length-take-le k ls (omega arith) in
    ap (prefix_len is_blank_line) (take_more ls k [] h) ∙ prefix_len-append is_blank_line (take k ls) (get_or ls k [] ∷ [])
    ∙ ap
    (λ n. if prefix_len is_blank_line (take k ls) == n then n + prefix_len is_blank_line (get_or ls k [] ∷ []) else prefix_len is_blank_line (take k ls)) long

first_text : (p k n : ℕ) → n ≡ 0 → (if p == k then k + n else p) ≡ p
first_text p k n none = elim (cases_Bool (p == k)) [
  | inl same ↦ rw same (omega (arith, eqb-true p k same))
  | inr other ↦ rw other refl
]

module _ (ls : List (List ℕ)) (k : ℕ) (s t : BlockShape) (within : k < length ls) (is : IsShape s k ls) where
  same_line : get_or ls k [] ≡ get_or ls k (get_or ls k [])
  same_line = any_default ls k [] (get_or ls k []) within

  -- the shape with one more line, a blank one
  pub blank_added : is_blank_line (get_or ls k []) ≡ true → t.indent ≡ s.indent → t.first ≡ (if s.first == k then k + 1 else s.first) → t.through ≡ s.through
      → IsShape t (k + 1) ls
  blank_added blank indents firsts throughs =
      let one : prefix_len is_blank_line (get_or ls k [] ∷ []) ≡ 1 = rw blank refl in
      record {
        least = indents ∙ is.least ∙ sym (indent_blank ls k within blank);
        first = firsts ∙ ap (λ p. if p == k then k + 1 else p) is.first
            ∙ sym (first_more ls k within ∙ ap (λ n. if prefix_len is_blank_line (take k ls) == k then k + n else prefix_len is_blank_line (take k ls)) one);
        through = throughs ∙ is.through ∙ through_blank ls k (k + 1) (get_or ls k []) within same_line refl blank;
      }

  text_first : is_blank_line (get_or ls k []) ≡ false → prefix_len is_blank_line (take (k + 1) ls) ≡ prefix_len is_blank_line (take k ls)
  text_first text =
      let none : prefix_len is_blank_line (get_or ls k [] ∷ []) ≡ 0 = rw text refl in
      first_more ls k within ∙ first_text (prefix_len is_blank_line (take k ls)) k _ none

  -- the shape with one more line, which is not blank
  pub text_added : is_blank_line (get_or ls k []) ≡ false → 0 < k → t.indent ≡ Some (least_indent s.indent (indent (get_or ls k []))) → t.first ≡ s.first
      → t.through ≡ k + 1 → IsShape t (k + 1) ls
  text_added text later indents firsts throughs =
      record {
        least = indents ∙ ap (λ o. Some (least_indent o (indent (get_or ls k [])))) is.least
            ∙ sym (ap least (one_more ls k within later) ∙ least_text (drop 1 (take k ls)) (get_or ls k []) text);
        first = firsts ∙ is.first ∙ sym (text_first text);
        through = throughs ∙ through_text ls k (k + 1) (get_or ls k []) within same_line refl text;
      }

-- ---- blank lines, and lines without an escape

pub blank_from_indent : (line : List ℕ) → indent line ≡ length line → is_blank_line line ≡ true
blank_from_indent line e =
    ap is_blank_line (sym (take_all (length line) line (omega arith))) ∙ run_passes is_white line (length line) (sym e)

pub text_from_indent : (line : List ℕ) → indent line ≢ length line → is_blank_line line ≡ false
text_from_indent line h = elim (cases_Bool (is_blank_line line)) [
  | inl blank ↦ absurd (h (blank_indent line blank))
  | inr text ↦ text
]

pub plain_line : (line : List ℕ) → ((i : ℕ) → i < length line → get_or line i 0 ≢ 92) → unescaped line ≡ line
plain_line line none = unescaped_none line (λ k within rest e.
    let first : get_or line k 0 ≡ 92 = ap (λ n. get_or line n 0) (sym (add-zero k)) ∙ sym (get_or-drop k line 0 0) ∙ ap (λ l. get_or l 0 0) e in
    none k (omega (arith, ap length e, length-drop k line)) first)

-- ---- all lines

pub shape_first : (s : BlockShape) (ls : List (List ℕ)) → IsShape s (length ls) ls → s.first ≡ prefix_len is_blank_line ls
shape_first s ls is = is.first ∙ ap (prefix_len is_blank_line) (take_all (length ls) ls (omega arith))

pub shape_through : (s : BlockShape) (ls : List (List ℕ)) → IsShape s (length ls) ls → s.through ≡ length ls - suffix_len is_blank_line ls
shape_through s ls is = is.through ∙ ap (λ xs. length ls - suffix_len is_blank_line xs) (take_all (length ls) ls (omega arith))

pub shape_indent : (s : BlockShape) (ls : List (List ℕ)) → IsShape s (length ls) ls → unwrap_or s.indent 0 ≡ common_indent ls
unfolding common_indent
shape_indent s ls is =
    ap (λ o. unwrap_or o 0) is.least ∙ ap (λ xs. unwrap_or (least (drop 1 xs)) 0) (take_all (length ls) ls (omega arith))

-- a line that is kept, by its number
pub kept_line : (first through : ℕ) (ls : List (List ℕ)) (i : ℕ) (l : List ℕ) → first ≤ i → i < through → through ≤ length ls → l ≡ get_or ls i []
    → (i - first < length (kept first through ls)) × ((i, l) ≡ get_or (kept first through ls) (i - first) (i, l))
kept_line first through ls i l low high capacity at =
    let numbers = enumerate_from 0 ls in
    let sum : first + (i - first) ≡ i = omega arith in
    let inside : i < length ls = omega arith in
    let here : l ≡ get_or ls i l = at ∙ any_default ls i [] l inside in
    let e : get_or (kept first through ls) (i - first) (i, l) ≡ (0 + i, get_or ls i l) =
    get_or-drop first (take through numbers) (i - first) (i, l) ∙ ap (λ n. get_or (take through numbers) n (i, l)) sum
    ∙ get_or-take through numbers i (i, l) high ∙ get_or-enumerate_from 0 ls i (i, l) inside in (
      omega (arith, length-drop first (take through numbers), length-take through numbers, length-enumerate_from 0 ls),
      (λ k. (sym (zero-add i) k, here k)) ∙ sym e,
    )

-- how many lines are kept
pub length-kept : (first through : ℕ) (ls : List (List ℕ)) → through ≤ length ls → length (kept first through ls) ≡ through - first
length-kept first through ls capacity =
    let numbers = enumerate_from 0 ls in
    omega (arith, length-drop first (take through numbers), length-take through numbers, length-enumerate_from 0 ls)
