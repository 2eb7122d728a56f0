-- The value of a block form is the string that it was made of.
use Rattle.std.specs.List.{filter, fold, reduce, slice_split, onto_first, join_with_byte, suffix_len, list_all, list_any, flat_map, prefix_len, AllByRecursion}
use Rattle.std.specs.Str.Lines.{lines_of_parts, strip_carriage_return, lines}
use Rattle.std.proofs.Common.{◌≡◌, ◌≤◌, ℕ, zero, suc, ◌+◌, ◌-◌, min, Bool, true, false, not, ◌&&◌, ◌||◌, ◌==◌, List, [], ◌∷◌, ◌++◌, Some, length, get_or}
use Rattle.std.proofs.Common.{take, drop, map, reverse, refl, sym, ap, ap₂, ◌∙◌, inl, inr, ◌⊎◌, arith, append_assoc, append-nil, eqb-true, length-append}
use Rattle.std.proofs.lemmas.Bool.{or_cases, or_right, cases_Bool, and_parts, and_from}
use Rattle.std.proofs.lemmas.List.{take_at, length-map, map-append, reverse-append}
use Rattle.std.proofs.lemmas.List.Splits.{join_with_byte-slice_split}
use Rattle.graphql_core.specs.{is_white, indent, common_indent, unindented, without_blank_ends, unescaped, join_lines, value_of_lines, block_value}
use Rattle.graphql_core.specs.{is_blank_line, begins_quotes, spaces, block_string_of, lines_of, first_line, last_line, is_empty, ends_in_return, begins_white}
use Rattle.graphql_core.specs.{has_block_form, has_block_lines, is_block_character, escaped_quotes, block_line, in_block_form}
use Rattle.std.specs.Str.{chars}
use Rattle.std.proofs.lemmas.Bool.Decides.{nat_tests}
use Rattle.graphql_core.proofs.strings.{in_triple_quotes, ends_in_return_is}
use Rattle.graphql_core.proofs.layouts.BlockForm.{is_triple, triple_front, other_front, no_quotes_escaped}

negated : (b : Bool) → not b ≡ true → b ≡ false
negated true h = absurd cc
negated false h = refl

-- a line as it is in the block form, without its line feed
abbrev indented : ℕ → List ℕ → List ℕ
indented n [] = []
indented n (b ∷ bs) = spaces n ++ escaped_quotes (b ∷ bs)

line_is : (n : ℕ) (l : List ℕ) → block_line n l ≡ indented n l ++ 10 ∷ []
line_is n [] = refl
line_is n (b ∷ bs) = sym (append_assoc (spaces n) (escaped_quotes (b ∷ bs)) (10 ∷ []))

-- what holds of quotes, the backslash and each byte of s holds of each byte of the escaped s
escaped_all : (p : ℕ → Bool) → p 34 ≡ true → p 92 ≡ true → (s : List ℕ) → list_all p s ≡ true → list_all p (escaped_quotes s) ≡ true
escaped_all p q e [] h = h
escaped_all p q e (a ∷ []) h = h
escaped_all p q e (a ∷ b ∷ []) h = h
escaped_all p q e (a ∷ b ∷ c ∷ s) h =
    let (first, h1) = and_parts (p a) (list_all p (b ∷ c ∷ s)) h in
    elim (cases_Bool (is_triple a b c)) [
      | inl t ↦
          let (second, h2) = and_parts (p b) (list_all p (c ∷ s)) h1 in
          let (third, h3) = and_parts (p c) (list_all p s) h2 in
          rw (triple_front a b c s t, e, q) (escaped_all p q e s h3)
      | inr t ↦ rw (other_front a b c s t) (and_from (p a) _ first (escaped_all p q e (b ∷ c ∷ s) h1))
    ]

-- ---- split at line feeds

abbrev NoFeed : List ℕ → Type 0
NoFeed l = list_all (λ b. not (b == 10)) l ≡ true

split_none : (l : List ℕ) → NoFeed l → slice_split (λ b. b == 10) l ≡ l ∷ []
split_none [] h = refl
split_none (b ∷ l) h =
    let (here, others) = and_parts (not (b == 10)) (list_all (λ b. not (b == 10)) l) h in
    let other : (b == 10) ≡ false = grind (arith, nat_tests) in
    rw (other, split_none l others) refl

split_feed : (l rest : List ℕ) → NoFeed l → slice_split (λ b. b == 10) (l ++ 10 ∷ rest) ≡ l ∷ slice_split (λ b. b == 10) rest
split_feed [] rest h = refl
split_feed (b ∷ l) rest h =
    let (here, others) = and_parts (not (b == 10)) (list_all (λ b. not (b == 10)) l) h in
    let other : (b == 10) ≡ false = grind (arith, nat_tests) in
    rw (other, split_feed l rest others) refl

onto_no_feed : (b : ℕ) (ls : List (List ℕ)) → (b == 10) ≡ false → AllByRecursion NoFeed ls → AllByRecursion NoFeed (onto_first b ls)
onto_no_feed b [] other h = (rw other refl, tt)
onto_no_feed b (l ∷ ls) other (here, others) = (rw other here, others)

-- a line has no line feed
lines_no_feed : (text : List ℕ) → AllByRecursion NoFeed (lines_of text)
lines_no_feed [] = (refl, tt)
lines_no_feed (b ∷ text) =
    elim (cases_Bool (b == 10)) [
      | inl e ↦ rw e (refl, lines_no_feed text)
      | inr e ↦ rw e (onto_no_feed b (lines_of text) e (lines_no_feed text))
    ]

spaces_all : (p : ℕ → Bool) (n : ℕ) (xs : List ℕ) → p 32 ≡ true → list_all p (spaces n ++ xs) ≡ list_all p xs
spaces_all p zero xs h = refl
spaces_all p (suc n) xs h = rw h (spaces_all p n xs h)

indented_no_feed : (n : ℕ) (l : List ℕ) → NoFeed l → NoFeed (indented n l)
indented_no_feed n [] h = h
indented_no_feed n (b ∷ bs) h = spaces_all (λ b. not (b == 10)) n (escaped_quotes (b ∷ bs)) refl ∙ escaped_all (λ b. not (b == 10)) refl refl (b ∷ bs) h

split_lines : (n : ℕ) (ls : List (List ℕ)) (end : List ℕ) → AllByRecursion NoFeed ls → NoFeed end
    → slice_split (λ b. b == 10) (flat_map (block_line n) ls ++ end) ≡ map (indented n) ls ++ end ∷ []
split_lines n [] end h e = split_none end e
split_lines n (l ∷ ls) end (here, others) e =
    let all = flat_map (block_line n) ls ++ end in
    let parts : (block_line n l ++ flat_map (block_line n) ls) ++ end ≡ indented n l ++ 10 ∷ all =
    append_assoc (block_line n l) (flat_map (block_line n) ls) end ∙ ap (λ (x : List ℕ). x ++ all) (line_is n l) ∙ append_assoc (indented n l) (10 ∷ []) all in
    ap (slice_split (λ b. b == 10)) parts ∙ split_feed (indented n l) all (indented_no_feed n l here)
    ∙ ap (λ (x : List (List ℕ)). indented n l ∷ x) (split_lines n ls end others e)

-- ---- carriage returns

-- the last byte after d
abbrev last_byte : ℕ → List ℕ → ℕ
last_byte d [] = d
last_byte d (b ∷ bs) = last_byte b bs

ends_by_last : (l : List ℕ) → ends_in_return l ≡ (last_byte 0 l == 13)
ends_by_last [] = refl
ends_by_last (b ∷ []) = refl
ends_by_last (b ∷ c ∷ cs) = ends_by_last (c ∷ cs)

last_escaped : (d : ℕ) (s : List ℕ) → last_byte d (escaped_quotes s) ≡ last_byte d s
last_escaped d [] = refl
last_escaped d (a ∷ []) = refl
last_escaped d (a ∷ b ∷ []) = refl
last_escaped d (a ∷ b ∷ c ∷ s) =
    elim (cases_Bool (is_triple a b c)) [
      | inl t ↦ let e : c ≡ 34 = grind (arith, nat_tests) in rw (triple_front a b c s t) (last_escaped 34 s ∙ sym (ap (λ x. last_byte x s) e))
      | inr t ↦ rw (other_front a b c s t) (last_escaped a (b ∷ c ∷ s))
    ]

last_spaced : (d n : ℕ) (b : ℕ) (s : List ℕ) → last_byte d (spaces n ++ escaped_quotes (b ∷ s)) ≡ last_byte b s
last_spaced d zero b s = last_escaped d (b ∷ s)
last_spaced d (suc n) b s = last_spaced 32 n b s

abbrev NoReturn : List ℕ → Type 0
NoReturn l = ends_in_return l ≡ false

indented_no_return : (n : ℕ) (l : List ℕ) → NoReturn l → NoReturn (indented n l)
indented_no_return n [] h = h
indented_no_return n (b ∷ bs) h =
    ends_by_last (spaces n ++ escaped_quotes (b ∷ bs)) ∙ ap (λ x. x == 13) (last_spaced 0 n b bs) ∙ sym (ends_by_last (b ∷ bs)) ∙ h

kept : (l : List ℕ) → NoReturn l → strip_carriage_return l ≡ l
kept l h = let e : (get_or l (length l - 1) 0 == 13) ≡ false = sym (ends_in_return_is l) ∙ h in rw e refl

-- an empty last part is no line
abbrev tail : List ℕ → List (List ℕ)
tail [] = []
tail (b ∷ bs) = (b ∷ bs) ∷ []

lines_end : (end : List ℕ) → lines_of_parts (end ∷ []) ≡ tail end
lines_end [] = refl
lines_end (b ∷ bs) = let z : (length (b ∷ bs) == 0) ≡ false = grind (arith, nat_tests) in rw z refl

parts_lines : (ls : List (List ℕ)) (end : List ℕ) → AllByRecursion NoReturn ls → lines_of_parts (ls ++ end ∷ []) ≡ ls ++ tail end
parts_lines [] end h = lines_end end
parts_lines (l ∷ []) end (here, others) = ap₂ (λ (x : List ℕ) (xs : List (List ℕ)). x ∷ xs) (kept l here) (lines_end end)
parts_lines (l ∷ m ∷ ls) end (here, others) = ap₂ (λ (x : List ℕ) (xs : List (List ℕ)). x ∷ xs) (kept l here) (parts_lines (m ∷ ls) end others)

all_indented : (n : ℕ) (ls : List (List ℕ)) → list_all (λ l. not (ends_in_return l)) ls ≡ true → AllByRecursion NoReturn (map (indented n) ls)
all_indented n [] h = tt
all_indented n (l ∷ ls) h =
    let (here, others) = and_parts (not (ends_in_return l)) (list_all (λ l. not (ends_in_return l)) ls) h in
    (indented_no_return n l (negated (ends_in_return l) here), all_indented n ls others)

-- the raw lines of a block form
raw_lines : (n margin : ℕ) (text : List ℕ) → list_all (λ l. not (ends_in_return l)) (lines_of text) ≡ true
    → lines (10 ∷ (flat_map (block_line n) (lines_of text) ++ spaces margin)) ≡ [] ∷ (map (indented n) (lines_of text) ++ tail (spaces margin))
raw_lines n margin text h =
    let e = split_lines n (lines_of text) (spaces margin) (lines_no_feed text)
    (ap (list_all (λ b. not (b == 10))) (sym (append-nil (spaces margin))) ∙ spaces_all (λ b. not (b == 10)) margin [] refl) in
    ap (λ (x : List (List ℕ)). lines_of_parts ([] ∷ x)) e ∙ parts_lines ([] ∷ map (indented n) (lines_of text)) (spaces margin)
    (refl, all_indented n (lines_of text) h)

-- ---- the common indent

white_indent : (n : ℕ) (xs : List ℕ) → indent (spaces n ++ xs) ≡ n + indent xs
white_indent zero xs = omega arith
white_indent (suc n) xs = let e = white_indent n xs in omega (arith, e)

-- a line is blank exactly if its escaped form is
blank_escaped : (s : List ℕ) → is_blank_line (escaped_quotes s) ≡ is_blank_line s
blank_escaped [] = refl
blank_escaped (a ∷ []) = refl
blank_escaped (a ∷ b ∷ []) = refl
blank_escaped (a ∷ b ∷ c ∷ s) =
    elim (cases_Bool (is_triple a b c)) [
      | inl t ↦ let w : is_white a ≡ false = grind (arith, nat_tests) in rw (triple_front a b c s t, w) refl
      | inr t ↦ rw (other_front a b c s t) (ap (λ x. is_white a && x) (blank_escaped (b ∷ c ∷ s)))
    ]

-- a line that begins with no white space has no indent when escaped
sharp_escaped : (s : List ℕ) → begins_white s ≡ false → indent (escaped_quotes s) ≡ 0
sharp_escaped [] h = refl
sharp_escaped (a ∷ []) h = rw h refl
sharp_escaped (a ∷ b ∷ []) h = rw h refl
sharp_escaped (a ∷ b ∷ c ∷ s) h =
    elim (cases_Bool (is_triple a b c)) [
      | inl t ↦ rw (triple_front a b c s t) refl
      | inr t ↦ rw (other_front a b c s t) (rw h refl)
    ]

-- the line is empty if it is blank
abbrev IsNeat : List ℕ → Bool
IsNeat l = not (is_blank_line l) || is_empty l

abbrev is_sharp : List ℕ → Bool
is_sharp l = not (is_blank_line l) && not (begins_white l)

abbrev shows : List ℕ → Bool
shows l = not (is_blank_line l)

indented_blank : (n : ℕ) (b : ℕ) (bs : List ℕ) → IsNeat (b ∷ bs) ≡ true → is_blank_line (indented n (b ∷ bs)) ≡ false
indented_blank n b bs h = spaces_all is_white n (escaped_quotes (b ∷ bs)) refl ∙ blank_escaped (b ∷ bs) ∙ seen (is_blank_line (b ∷ bs)) h
  where
    seen : (t : Bool) → (not t || false) ≡ true → t ≡ false
    seen true h = absurd cc
    seen false h = refl

-- the indents of lines that are not blank
abbrev indents : List (List ℕ) → List ℕ
indents ls = map indent (filter (λ l. not (is_blank_line l)) ls)

blank_spaces : (n : ℕ) → is_blank_line (spaces n) ≡ true
blank_spaces n = ap is_blank_line (sym (append-nil (spaces n))) ∙ spaces_all is_white n [] refl

blank_tail : (margin : ℕ) → filter (λ l. not (is_blank_line l)) (tail (spaces margin)) ≡ []
blank_tail zero = refl
blank_tail (suc n) = rw (blank_spaces n) refl

abbrev AllFrom : ℕ → List ℕ → Type 0
AllFrom n = AllByRecursion (λ k. n ≤ k)

none_less : (n margin : ℕ) (ls : List (List ℕ)) → list_all IsNeat ls ≡ true → AllFrom n (indents (map (indented n) ls ++ tail (spaces margin)))
none_less n margin [] h = rw (blank_tail margin) tt
none_less n margin ([] ∷ ls) h = none_less n margin ls h
none_less n margin ((b ∷ bs) ∷ ls) h =
    let (here, others) = and_parts (IsNeat (b ∷ bs)) (list_all IsNeat ls) h in
    rw (indented_blank n b bs here) (omega (arith, white_indent n (escaped_quotes (b ∷ bs))), none_less n margin ls others)

some_equal : (n margin : ℕ) (ls : List (List ℕ)) → list_all IsNeat ls ≡ true → list_any is_sharp ls ≡ true
    → list_any (λ k. k == n) (indents (map (indented n) ls ++ tail (spaces margin))) ≡ true
some_equal n margin [] h k = absurd cc
some_equal n margin ([] ∷ ls) h k = some_equal n margin ls h k
some_equal n margin ((b ∷ bs) ∷ ls) h k =
    let (here, others) = and_parts (IsNeat (b ∷ bs)) (list_all IsNeat ls) h in
    elim (cases_Bool (is_sharp (b ∷ bs))) [
      | inl t ↦
          let w = (and_parts (not (is_blank_line (b ∷ bs))) (not (begins_white (b ∷ bs))) t).1 in
          let z : indent (spaces n ++ escaped_quotes (b ∷ bs)) ≡ n = white_indent n (escaped_quotes (b ∷ bs))
          ∙ ap (λ x. n + x) (sharp_escaped (b ∷ bs) (negated (begins_white (b ∷ bs)) w)) ∙ omega arith in
          let e : (n == n) ≡ true = grind (arith, nat_tests) in
          rw (indented_blank n b bs here, z, e) refl
      | inr t ↦
          let more = some_equal n margin ls others (rw t at k) in
          rw (indented_blank n b bs here) (or_right _ _ more)
    ]

fold_least : (n x : ℕ) (xs : List ℕ) → n ≤ x → AllFrom n xs → (x ≡ n) ⊎ (list_any (λ k. k == n) xs ≡ true) → fold min x xs ≡ n
fold_least n x [] low all (inl e) = e
fold_least n x [] low all (inr e) = absurd cc
fold_least n x (y ∷ ys) low (here, all) (inl e) = fold_least n (min x y) ys (omega arith) all (inl (omega arith))
fold_least n x (y ∷ ys) low (here, all) (inr e) =
    elim (or_cases (y == n) (list_any (λ k. k == n) ys) e) [
      | inl z ↦ let same = eqb-true y n z in fold_least n (min x y) ys (omega arith) all (inl (omega arith))
      | inr z ↦ fold_least n (min x y) ys (omega arith) all (inr z)
    ]

least : (n : ℕ) (xs : List ℕ) → AllFrom n xs → list_any (λ k. k == n) xs ≡ true → reduce min xs ≡ Some n
least n [] all some = absurd cc
least n (x ∷ xs) (here, all) some =
    ap Some (elim (or_cases (x == n) (list_any (λ k. k == n) xs) some)
    [ inl e ↦ fold_least n x xs here all (inl (eqb-true x n e)) | inr e ↦ fold_least n x xs here all (inr e) ])

indent_is : (n margin : ℕ) (ls : List (List ℕ)) → list_all IsNeat ls ≡ true → list_any is_sharp ls ≡ true
    → common_indent ([] ∷ (map (indented n) ls ++ tail (spaces margin))) ≡ n
unfolding common_indent
indent_is n margin ls h k = rw (least n _ (none_less n margin ls h) (some_equal n margin ls h k)) refl

-- ---- without the indent and the outer blank lines

drop_spaces : (n : ℕ) (xs : List ℕ) → drop n (spaces n ++ xs) ≡ xs
drop_spaces zero xs = refl
drop_spaces (suc n) xs = drop_spaces n xs

drop_none : (n : ℕ) → drop {A = ℕ} n [] ≡ []
drop_none zero = refl
drop_none (suc n) = refl

dropped : (n : ℕ) (ls : List (List ℕ)) → map (drop n) (map (indented n) ls) ≡ map escaped_quotes ls
dropped n [] = refl
dropped n ([] ∷ ls) = ap₂ (λ (x : List ℕ) (xs : List (List ℕ)). x ∷ xs) (drop_none n) (dropped n ls)
dropped n ((b ∷ bs) ∷ ls) = ap₂ (λ (x : List ℕ) (xs : List (List ℕ)). x ∷ xs) (drop_spaces n (escaped_quotes (b ∷ bs))) (dropped n ls)

-- the blank lines at the end are those of the tail
all_tail : (margin : ℕ) → prefix_len is_blank_line (tail (spaces margin)) ≡ length (tail (spaces margin))
all_tail zero = refl
all_tail (suc n) = rw (blank_spaces n) refl

tail_reverse : (margin : ℕ) → reverse (tail (spaces margin)) ≡ tail (spaces margin)
tail_reverse zero = refl
tail_reverse (suc n) = refl

prefix_past : (xs : List (List ℕ)) (y : List ℕ) (ys : List (List ℕ)) → prefix_len is_blank_line xs ≡ length xs → is_blank_line y ≡ false
    → prefix_len is_blank_line (xs ++ y ∷ ys) ≡ length xs
prefix_past [] y ys h e = rw e refl
prefix_past (x ∷ xs) y ys h e =
    elim (cases_Bool (is_blank_line x)) [
      | inl t ↦
          let below : prefix_len is_blank_line xs ≡ length xs = let k : 1 + prefix_len is_blank_line xs ≡ suc (length xs) = rw t at h in omega arith in
          let more = prefix_past xs y ys below e in
          rw t (omega (arith, more))
      | inr t ↦ let k : 0 ≡ suc (length xs) = rw t at h in absurd (omega arith)
    ]

-- the lines except the last one
abbrev but_last : List (List ℕ) → List (List ℕ)
but_last [] = []
but_last (l ∷ []) = []
but_last (l ∷ m ∷ ls) = l ∷ but_last (m ∷ ls)

with_last : (l : List ℕ) (ls : List (List ℕ)) → l ∷ ls ≡ but_last (l ∷ ls) ++ last_line (l ∷ ls) ∷ []
with_last l [] = refl
with_last l (m ∷ ls) = ap (λ (x : List (List ℕ)). l ∷ x) (with_last m ls)

blank_suffix : (margin : ℕ) (front : List (List ℕ)) (last : List ℕ) → is_blank_line last ≡ false
    → suffix_len is_blank_line ((front ++ last ∷ []) ++ tail (spaces margin)) ≡ length (tail (spaces margin))
blank_suffix margin front last h =
    ap (prefix_len is_blank_line) (reverse-append (front ++ last ∷ []) (tail (spaces margin))
    ∙ ap₂ (λ (a b : List (List ℕ)). a ++ b) (tail_reverse margin) (reverse-append front (last ∷ [])))
    ∙ prefix_past (tail (spaces margin)) last (reverse front) (all_tail margin) h

-- neat lines that are not blank are not blank with their margin
shown : (n : ℕ) (l : List ℕ) → is_blank_line l ≡ false → is_blank_line (indented n l) ≡ false
shown n [] h = absurd cc
shown n (b ∷ bs) h = spaces_all is_white n (escaped_quotes (b ∷ bs)) refl ∙ blank_escaped (b ∷ bs) ∙ h

last_of_map : (n : ℕ) (l : List ℕ) (ls : List (List ℕ))
    → map (indented n) (l ∷ ls) ≡ map (indented n) (but_last (l ∷ ls)) ++ indented n (last_line (l ∷ ls)) ∷ []
last_of_map n l ls = ap (map (indented n)) (with_last l ls) ∙ map-append (indented n) (but_last (l ∷ ls)) (last_line (l ∷ ls) ∷ [])

-- the lines that are left
lines_left : (n margin : ℕ) (l : List ℕ) (ls : List (List ℕ)) → is_blank_line l ≡ false → is_blank_line (last_line (l ∷ ls)) ≡ false
    → without_blank_ends ([] ∷ (map (indented n) (l ∷ ls) ++ tail (spaces margin))) (unindented n ([] ∷ (map (indented n) (l ∷ ls) ++ tail (spaces margin))))
    ≡ map escaped_quotes (l ∷ ls)
lines_left n margin l ls first last =
    let all = map (indented n) (l ∷ ls) in
    let t = tail (spaces margin) in
    let prefix : prefix_len is_blank_line ([] ∷ (all ++ t)) ≡ 1 = rw (shown n l first) refl in
    let suffix : suffix_len is_blank_line ([] ∷ (all ++ t)) ≡ length t =
    ap (λ (x : List (List ℕ)). suffix_len is_blank_line ([] ∷ (x ++ t))) (last_of_map n l ls)
    ∙ blank_suffix margin ([] ∷ map (indented n) (but_last (l ∷ ls))) (indented n (last_line (l ∷ ls))) (shown n (last_line (l ∷ ls)) last) in
    let count : length ([] ∷ (all ++ t)) - suffix_len is_blank_line ([] ∷ (all ++ t)) ≡ suc (length all) = omega (arith, suffix, length-append all t) in
    let front : take (length all) (map (drop n) (all ++ t)) ≡ map (drop n) all =
    ap (take (length all)) (map-append (drop n) all t) ∙ take_at (map (drop n) all) (map (drop n) t) (length all) (length-map all (drop n)) in
    rw (prefix, count) (front ∙ dropped n (l ∷ ls))

-- ---- the lines, joined

quotes_front : (xs ys : List ℕ) → begins_quotes (xs ++ ys) ≡ false → begins_quotes xs ≡ false
quotes_front [] ys h = refl
quotes_front (a ∷ []) ys h = refl
quotes_front (a ∷ b ∷ []) ys h = refl
quotes_front (a ∷ b ∷ c ∷ xs) ys h = h

plain_first : (a : ℕ) (xs : List ℕ) → begins_quotes xs ≡ false → unescaped (a ∷ xs) ≡ a ∷ unescaped xs
plain_first a xs h = elim (cases_Bool (a == 92)) [ inl e ↦ rw (e, h) refl | inr e ↦ rw e refl ]

-- escaped and unescaped
unescaped_escaped : (s : List ℕ) → unescaped (escaped_quotes s) ≡ s
unescaped_escaped [] = refl
unescaped_escaped (a ∷ []) = plain_first a [] refl
unescaped_escaped (a ∷ b ∷ []) = plain_first a (b ∷ []) refl ∙ ap (λ (x : List ℕ). a ∷ x) (plain_first b [] refl)
unescaped_escaped (a ∷ b ∷ c ∷ s) =
    elim (cases_Bool (is_triple a b c)) [
      | inl t ↦
          let (ea, more) = and_parts (a == 34) (b == 34 && c == 34) t in
          let (eb, ec) = and_parts (b == 34) (c == 34) more in
          rw (triple_front a b c s t) (ap (λ (x : List ℕ). 34 ∷ 34 ∷ 34 ∷ x) (unescaped_escaped s)
          ∙ rw (eqb-true a 34 ea, eqb-true b 34 eb, eqb-true c 34 ec) refl)
      | inr t ↦
          let front = quotes_front (escaped_quotes (b ∷ c ∷ s)) (10 ∷ []) (no_quotes_escaped (b ∷ c ∷ s) []) in
          rw (other_front a b c s t) (plain_first a (escaped_quotes (b ∷ c ∷ s)) front ∙ ap (λ (x : List ℕ). a ∷ x) (unescaped_escaped (b ∷ c ∷ s)))
    ]

joined_lines : (l : List ℕ) (ls : List (List ℕ)) → join_lines (map escaped_quotes (l ∷ ls)) ≡ join_with_byte 10 (l ∷ ls)
joined_lines l [] = append-nil _ ∙ unescaped_escaped l
joined_lines l (m ∷ ls) = ap₂ (λ (x y : List ℕ). x ++ 10 ∷ y) (unescaped_escaped l) (joined_lines m ls)

-- ---- the value

abbrev HasForm : List ℕ → List (List ℕ) → Type 0
HasForm text ls =
    (is_blank_line (first_line ls) ≡ false) × (is_blank_line (last_line ls) ≡ false) × (list_all IsNeat ls ≡ true)
    × (list_all (λ l. not (ends_in_return l)) ls ≡ true) × (list_any is_sharp ls ≡ true)

lines_value : (n margin : ℕ) (text : List ℕ) (ls : List (List ℕ)) → lines_of text ≡ ls → HasForm text ls
    → value_of_lines ([] ∷ (map (indented n) ls ++ tail (spaces margin))) ≡ text
lines_value n margin text [] e f = absurd cc
lines_value n margin text (l ∷ ls) e (first, last, neat, no_return, sharp) =
    let all = [] ∷ (map (indented n) (l ∷ ls) ++ tail (spaces margin)) in
    ap (λ k. join_lines (without_blank_ends all (unindented k all))) (indent_is n margin (l ∷ ls) neat sharp)
    ∙ ap join_lines (lines_left n margin l ls first last) ∙ joined_lines l ls ∙ sym (ap (join_with_byte 10) e) ∙ join_with_byte-slice_split 10 text

has_form : (text : List ℕ) → has_block_lines text ≡ true → HasForm text (lines_of text)
has_form text h =
    let ls = lines_of text in
    let (first, h3) = and_parts (not (is_blank_line (first_line ls)))
    (not (is_blank_line (last_line ls)) && (list_all IsNeat ls && (list_all (λ l. not (ends_in_return l)) ls && list_any is_sharp ls))) h in
    let (last, h4) =
    and_parts (not (is_blank_line (last_line ls))) (list_all IsNeat ls && (list_all (λ l. not (ends_in_return l)) ls && list_any is_sharp ls)) h3 in
    let (neat, h5) = and_parts (list_all IsNeat ls) (list_all (λ l. not (ends_in_return l)) ls && list_any is_sharp ls) h4 in
    let (no_return, sharp) = and_parts (list_all (λ l. not (ends_in_return l)) ls) (list_any is_sharp ls) h5 in
    (negated _ first, negated _ last, neat, no_return, sharp)

-- the value of the block form of a string is that string
pub block_lines_mean : (n margin : ℕ) (text : List ℕ) → has_block_lines text ≡ true → block_string_of (in_block_form n margin text) ≡ text
block_lines_mean n margin text h =
    let f = has_form text h in
    let flat = flat_map (block_line n) (lines_of text) in
    let content = 10 ∷ (flat ++ spaces margin) in
    let is : in_block_form n margin text ≡ 34 ∷ 34 ∷ 34 ∷ (content ++ 34 ∷ 34 ∷ 34 ∷ []) = ap (λ (x : List ℕ). 34 ∷ 34 ∷ 34 ∷ 10 ∷ x)
    (sym (append_assoc flat (spaces margin) (34 ∷ 34 ∷ 34 ∷ []))) in
    ap block_value (in_triple_quotes (in_block_form n margin text) content is) ∙ ap value_of_lines (raw_lines n margin text f.3)
    ∙ lines_value n margin text (lines_of text) refl f

pub block_means : (n margin : ℕ) (text : List ℕ) → has_block_form text ≡ true → block_string_of (in_block_form n margin text) ≡ text
block_means n margin text h =
    let (feed, more) = and_parts (list_any (λ b. b == 10) text) (list_all is_block_character (chars text) && has_block_lines text) h in
    block_lines_mean n margin text (and_parts (list_all is_block_character (chars text)) (has_block_lines text) more).1
