-- The first line of a string and the last one.
use Rattle.std.specs.List.{onto_first, list_all}
use Rattle.std.proofs.Common.{◌≡◌, ◌∙◌, ap, sym, refl, ℕ, suc, ◌-◌, ◌<◌, Bool, true, false, not, ◌&&◌, ◌||◌, ◌==◌, cond, Some, List, [], ◌∷◌, length, arith}
use Rattle.std.proofs.Common.{slice_get}
use Rattle.std.proofs.lemmas.List.Splits.{length-slice_split}
use Rattle.std.proofs.lemmas.Bool.{and_parts}
use Rattle.graphql_core.specs.{is_blank_line, lines_of, first_line, last_line, is_empty}

-- a string has at least one line
some_line : (text : List ℕ) → 0 < length (lines_of text)
some_line text = omega (arith, length-slice_split (λ b. b == 10) text)

ended : (b c : ℕ) (x y : Bool) (lines : List (List ℕ)) → 0 < length lines →
    is_empty (last_line (cond x ([] ∷ cond y ([] ∷ lines) (onto_first c lines)) (onto_first b (cond y ([] ∷ lines) (onto_first c lines)))))
    ≡ is_empty (last_line (cond y ([] ∷ lines) (onto_first c lines)))
ended b c x y [] some = absurd (omega arith)
ended b c true true (l ∷ ls) some = refl
ended b c true false (l ∷ ls) some = refl
ended b c false true (l ∷ ls) some = refl
ended b c false false (l ∷ []) some = refl
ended b c false false (l ∷ m ∷ ms) some = refl

alone : (b : ℕ) (feed : Bool) → is_empty (last_line (cond feed ([] ∷ [] ∷ []) (onto_first b ([] ∷ [])))) ≡ feed
alone b true = refl
alone b false = refl

-- the last line is empty exactly if the string ends with a line feed
pub last_full : (text : List ℕ) (b : ℕ) → Some b ≡ slice_get text (length text - 1) → not (b == 10) ≡ not (is_empty (last_line (lines_of text)))
last_full [] b e = absurd cc
last_full (x ∷ []) b e =
    let same : b ≡ x = cc in
    ap (λ c. not (c == 10)) same ∙ ap not (sym (alone x (x == 10)))
last_full (x ∷ y ∷ ys) b e =
    let later : length (x ∷ y ∷ ys) - 1 ≡ suc (length (y ∷ ys) - 1) = omega arith in
    let next : Some b ≡ slice_get (y ∷ ys) (length (y ∷ ys) - 1) = e ∙ ap (slice_get (x ∷ y ∷ ys)) later in
    last_full (y ∷ ys) b next ∙ ap not (sym (ended x y (x == 10) (y == 10) (lines_of ys) (some_line ys)))

or_false : (x : Bool) → (x || false) ≡ true → x ≡ true
or_false true h = refl
or_false false h = h

-- if an empty line is the only blank line allowed, a line is blank exactly if it is empty
line_text : (l : List ℕ) → (not (is_blank_line l) || is_empty l) ≡ true → not (is_blank_line l) ≡ not (is_empty l)
line_text [] h = refl
line_text (b ∷ bs) h = or_false (not (is_blank_line (b ∷ bs))) h

pub first_has_text : (lines : List (List ℕ)) → list_all (λ l. not (is_blank_line l) || is_empty l) lines ≡ true
    → not (is_blank_line (first_line lines)) ≡ not (is_empty (first_line lines))
first_has_text [] h = refl
first_has_text (l ∷ ls) h = line_text l (and_parts _ _ h).0

pub last_has_text : (lines : List (List ℕ)) → list_all (λ l. not (is_blank_line l) || is_empty l) lines ≡ true
    → not (is_blank_line (last_line lines)) ≡ not (is_empty (last_line lines))
last_has_text [] h = refl
last_has_text (l ∷ []) h = line_text l (and_parts _ _ h).0
last_has_text (l ∷ m ∷ ms) h = last_has_text (m ∷ ms) (and_parts _ _ h).1

never : (x y : Bool) → (x && (y && false)) ≡ false
never true true = refl
never true false = refl
never false y = refl

-- the tests of a string, in the order of the program and in the order of the layout
pub same_tests : (first last first_text last_text whole ends rest : Bool) → (whole ≡ true → first_text ≡ first) → (whole ≡ true → last_text ≡ last)
    → (first && (last && ((whole && ends) && rest))) ≡ (first_text && (last_text && (whole && (ends && rest))))
same_tests first last first_text last_text true ends rest same_first same_last = rw (same_first refl, same_last refl) refl
same_tests first last first_text last_text false ends rest same_first same_last = never first last ∙ sym (never first_text last_text)
