-- A place that is counted from another one.
use Rattle.std.specs.List.{list_all}
use Rattle.std.proofs.Common.{◌≡◌, ◌≢◌, ◌≤◌, ◌+◌, ◌==◌, ◌&&◌, ◌||◌, not, if◌then◌else◌, cond, ℕ, suc, Bool, true, false, List, [], ◌∷◌}
use Rattle.std.proofs.Common.{◌++◌, length, slice_index, refl, sym, ap, ◌∙◌, inl, inr, arith, append_assoc, length-append}
use Rattle.std.proofs.lemmas.Bool.{and_from, and_parts, eqb-true, eq-eqb, false_from_ne_true}
use Rattle.std.proofs.lemmas.List.Folds.{list_all-append}
use Rattle.std.proofs.lemmas.List.Sums.{count_by-le-length, sum_by-append}
use Rattle.graphql_core.specs.{is_in_line}
use Rattle.graphql_core.proofs.{false≢true}
use Rattle.graphql_standard.specs.Places.{ends_line, line_ends_after, line_ends, IsLastLine, IsPlaceAfter}
use Rattle.graphql_standard.specs.Places.{begins_character, character_count}
use Rattle.graphql_standard.specs.steps.Parts.{AreApart}
use Rattle.graphql_standard.specs.declared.place.Place.{Place}

-- ---- line ends

same_start : (previous : ℕ) (text : List ℕ) → slice_index text 0 ≢ 10 → line_ends_after previous text ≡ line_ends_after 0 text
same_start previous [] h = refl
same_start previous (b ∷ bs) h = rw (false_from_ne_true (b == 10) (λ e. h (eqb-true b 10 e))) refl

ends_after : (previous : ℕ) (a b : List ℕ) → slice_index b 0 ≢ 10
    → line_ends_after previous (a ++ b) ≡ line_ends_after previous a + line_ends_after 0 b
ends_after previous [] b h = omega (arith, same_start previous b h)
ends_after previous (x ∷ a) b h =
    let more = ends_after x a b h in
    let one : ℕ = if ends_line previous x then 1 else 0 in
    ap (λ (n : ℕ). one + n) more ∙ omega arith

pub ends_together : (a b : List ℕ) → AreApart a b → line_ends (a ++ b) ≡ line_ends a + line_ends b
ends_together a b (inl e) = rw e (omega arith)
ends_together a b (inr h) = ends_after 0 a b h

either : (a b : Bool) → (not a && not b) ≡ false → (b || (a && true)) ≡ true
either true true h = refl
either true false h = refl
either false true h = refl
either false false h = absurd cc

-- one more byte before a line end
one_before : (previous y more : ℕ) → (b : Bool) → (y == 13) ≡ b → (y ≢ 13 → 1 ≤ more)
    → 1 ≤ (if ends_line previous y then 1 else 0) + more
one_before previous y more true e later = rw e (omega arith)
one_before previous y more false e later =
    let some = later (λ is. false≢true (sym e ∙ eq-eqb y 13 is)) in
    let one : ℕ = if ends_line previous y then 1 else 0 in
    omega (arith, some)

some_ends : (previous : ℕ) (front : List ℕ) (x : ℕ) (line : List ℕ) → is_in_line x ≡ false → previous ≢ 13
    → 1 ≤ line_ends_after previous (front ++ x ∷ line)
some_ends previous [] x line h other =
    let low = false_from_ne_true (previous == 13) (λ e. other (eqb-true previous 13 e)) in
    let ends : ends_line previous x ≡ true = rw low (either (x == 10) (x == 13) h) in
    rw ends (omega arith)
some_ends previous (y ∷ ys) x line h other =
    one_before previous y (line_ends_after y (ys ++ x ∷ line)) (y == 13) refl (some_ends y ys x line h)

no_ends : (previous : ℕ) (line : List ℕ) → list_all is_in_line line ≡ true → line_ends_after previous line ≡ 0
no_ends previous [] h = refl
no_ends previous (b ∷ bs) h =
    let parts = and_parts (is_in_line b) (list_all is_in_line bs) h in
    let bytes = and_parts (not (b == 10)) (not (b == 13)) parts.0 in
    rw (not_true (b == 10) bytes.0, not_true (b == 13) bytes.1) (omega (arith, no_ends b bs parts.1))
  where
    not_true : (a : Bool) → not a ≡ true → a ≡ false
    not_true true e = absurd cc
    not_true false e = refl

pub few_ends : (previous : ℕ) (text : List ℕ) → line_ends_after previous text ≤ length text
few_ends previous [] = omega arith
few_ends previous (b ∷ bs) = of (ends_line previous b) (few_ends b bs)
  where
    of : (e : Bool) → line_ends_after b bs ≤ length bs → (if e then 1 else 0) + line_ends_after b bs ≤ suc (length bs)
    of true h = omega (arith, h)
    of false h = omega (arith, h)

-- ---- places

-- the place is as far from the second one as the first says
pub record AddsUp (start p q : Place) : Type 0 where
  pub offset_is : q.offset ≡ start.offset + p.offset
  pub line_is : q.line + 1 ≡ start.line + p.line
  pub first_line : p.line ≡ 1 → q.column + 1 ≡ start.column + p.column
  pub other_line : p.line ≢ 1 → q.column ≡ p.column

-- the last line of the whole, from those of both texts
column_together : (front text : List ℕ) (start p q : Place) → IsPlaceAfter front start → IsPlaceAfter text p → AddsUp start p q
    → (line : List ℕ) × IsLastLine (front ++ text) line × (q.column ≡ character_count line + 1)
column_together front text start p q first second adds = by first.column_is second.column_is
  where
    ColumnOf : List ℕ → Place → Type 0
    ColumnOf l at = (line : List ℕ) × IsLastLine l line × (at.column ≡ character_count line + 1)

    by : ColumnOf front start → ColumnOf text p → ColumnOf (front ++ text) q
    by (a, (f, e, ends, all), is) (b, (g, h, inl empty, others), are) =
        let whole : text ≡ b = h ∙ ap (λ (l : List ℕ). l ++ b) empty in
        let none = no_ends 0 b others in
        let same : line_ends text ≡ 0 = ap line_ends whole ∙ none in
        let one : p.line ≡ 1 = second.line_is ∙ ap (λ (n : ℕ). n + 1) same in
        let sum = sum_by-append (λ (c : ℕ). cond (begins_character c) 1 0) a b in (
          a ++ b,
          (
            f,
            ap (λ (l : List ℕ). l ++ text) e ∙ append_assoc f a text ∙ ap (λ (l : List ℕ). f ++ (a ++ l)) whole,
            ends,
            list_all-append is_in_line a b ∙ and_from (list_all is_in_line a) (list_all is_in_line b) all others,
          ),
          omega (arith, adds.first_line one, is, are, sum),
        )
    by (a, (f, e, ends, all), is) (b, (g, h, inr (k, x, last, feed), others), are) =
        let whole : text ≡ k ++ x ∷ b = h ∙ ap (λ (l : List ℕ). l ++ b) last ∙ append_assoc k (x ∷ []) b in
        let some = some_ends 0 k x b feed (λ z. absurd cc) in
        let same = ap line_ends whole in
        let more : p.line ≢ 1 = λ one. omega (arith, some, same, second.line_is, one) in (
          b,
          (
            front ++ g,
            ap (λ (l : List ℕ). front ++ l) h ∙ sym (append_assoc front g b),
            inr (front ++ k, x, ap (λ (l : List ℕ). front ++ l) last ∙ sym (append_assoc front k (x ∷ [])), feed),
            others,
          ),
          adds.other_line more ∙ are,
        )

pub places_together : (front text : List ℕ) (start p q : Place) → IsPlaceAfter front start → IsPlaceAfter text p → AreApart front text
    → AddsUp start p q → IsPlaceAfter (front ++ text) q
places_together front text start p q first second apart adds = record {
  offset_is = omega (arith, adds.offset_is, first.offset_is, second.offset_is, length-append front text);
  line_is = omega (arith, adds.line_is, first.line_is, second.line_is, ends_together front text apart);
  column_is = column_together front text start p q first second adds;
}

-- a place is within the text before it
pub line_within : (text : List ℕ) (p : Place) → IsPlaceAfter text p → p.line ≤ length text + 1
line_within text p h = omega (arith, h.line_is, few_ends 0 text)

pub column_within : (text : List ℕ) (p : Place) → IsPlaceAfter text p → p.column ≤ length text + 1
column_within text p h = by h.column_is
  where
    by : ((line : List ℕ) × IsLastLine text line × (p.column ≡ character_count line + 1)) → p.column ≤ length text + 1
    by (line, (front, e, ends, all), is) =
        omega (arith, is, count_by-le-length begins_character line, ap length e, length-append front line)

pub from_one : (text : List ℕ) (p : Place) → IsPlaceAfter text p → (1 ≤ p.line) × (1 ≤ p.column)
from_one text p h = by h.column_is
  where
    by : ((line : List ℕ) × IsLastLine text line × (p.column ≡ character_count line + 1)) → (1 ≤ p.line) × (1 ≤ p.column)
    by (line, last, is) = (omega (arith, h.line_is), omega (arith, is))
