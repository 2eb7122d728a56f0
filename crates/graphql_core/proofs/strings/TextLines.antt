-- The lines of a string, split off one after another, and lines without quotes.
use Rattle.std.specs.Option.{MatchOption}
use Rattle.std.specs.List.{onto_first, list_all, list_any, prefix_len}
use Rattle.std.proofs.Common.{◌≡◌, ◌≢◌, ◌∙◌, ap, sym, refl, ℕ, zero, suc, ◌≤◌, ◌<◌, Bool, true, false, not, ◌&&◌, ◌||◌, ◌==◌, inl, inr, Option, Some, None}
use Rattle.std.proofs.Common.{List, [], ◌∷◌, Bor, length, take, drop, arith, eqb-true}
use Rattle.graphql_core.specs.{is_plain_in_block, is_blank_line, lines_of, is_empty, ends_in_return}
use Rattle.std.specs.Str.{IsUtf8, IsCharBoundary}
use Rattle.std.proofs.lemmas.Bool.{cases_Bool}
use Rattle.std.proofs.lemmas.Bool.Decides.{nat_tests}
use Rattle.graphql_core.proofs.strings.QuotedText.{run_ends_whole}
use Rattle.graphql_core.proofs.strings.BlockBytes.{all_both}

-- a byte that is in no line is ASCII
feed_ascii : (b : ℕ) → not (b == 10) ≡ false → b < 128
feed_ascii b h = grind (arith, nat_tests)

-- there is a character boundary after the first line
pub line_ends_whole : (text : List ℕ) (n : ℕ) → IsUtf8 text → n ≡ prefix_len (λ b. not (b == 10)) text → IsCharBoundary text n
line_ends_whole text n u e = run_ends_whole (λ b. not (b == 10)) feed_ascii text n e

-- the only line
only_line : (text : List ℕ) (n : ℕ) → n ≡ prefix_len (λ b. not (b == 10)) text → ((rest : List ℕ) → drop n text ≢ 10 ∷ rest) → lines_of text ≡ take n text ∷ []
only_line [] zero e none = refl
only_line [] (suc n) e none = absurd (omega (arith, e))
only_line (b ∷ bs) zero e none = elim (cases_Bool (b == 10)) [
  | inl feed ↦ absurd (none bs (ap (λ c. c ∷ bs) (eqb-true b 10 feed)))
  | inr other ↦ absurd (omega (arith, rw other at e))
]
only_line (b ∷ bs) (suc n) e none = elim (cases_Bool (b == 10)) [
  | inl feed ↦ absurd (omega (arith, rw feed at e))
  | inr other ↦ rw other (ap (onto_first b) (only_line bs n (omega (arith, rw other at e)) none))
]

-- the first line, before a line feed
line_before : (text : List ℕ) (n : ℕ) (rest : List ℕ) → n ≡ prefix_len (λ b. not (b == 10)) text → drop n text ≡ 10 ∷ rest
    → lines_of text ≡ take n text ∷ lines_of rest
line_before [] zero rest e next = absurd cc
line_before [] (suc n) rest e next = absurd (omega (arith, e))
line_before (b ∷ bs) zero rest e next = elim (cases_Bool (b == 10)) [
  | inl feed ↦
      let same : bs ≡ rest = cc in
      rw feed (ap (λ r. [] ∷ lines_of r) same)
  | inr other ↦ absurd (omega (arith, rw other at e))
]
line_before (b ∷ bs) (suc n) rest e next = elim (cases_Bool (b == 10)) [
  | inl feed ↦ absurd (omega (arith, rw feed at e))
  | inr other ↦ rw other (ap (onto_first b) (line_before bs n rest (omega (arith, rw other at e)) next))
]

-- the first line, and the rest after a line feed if there is one
pub line_parts : (text : List ℕ) (n : ℕ) (line after : List ℕ) (r : Option (Bor (List ℕ))) → n ≡ prefix_len (λ b. not (b == 10)) text → line ≡ take n text
    → after ≡ drop n text → MatchOption r ((rest : List ℕ) → after ≢ 10 ∷ rest) (λ x. after ≡ 10 ∷ x.now)
    → MatchOption r (lines_of text ≡ line ∷ []) (λ x. lines_of text ≡ line ∷ lines_of x.now)
line_parts text n line after None e front back h = only_line text n e (λ rest f. h rest (back ∙ f)) ∙ ap (λ l. l ∷ []) (sym front)
line_parts text n line after (Some x) e front back h = line_before text n x.now e (sym back ∙ h) ∙ ap (λ l. l ∷ lines_of x.now) (sym front)

-- a line is empty or not blank, and does not end in a carriage return
abbrev pub is_whole : List ℕ → Bool
is_whole l = (not (is_blank_line l) || is_empty l) && not (ends_in_return l)

pub all_whole : (lines : List (List ℕ)) → list_all is_whole lines ≡ (list_all (λ l. not (is_blank_line l) || is_empty l) lines
    && list_all (λ l. not (ends_in_return l)) lines)
all_whole lines = all_both (λ l. not (is_blank_line l) || is_empty l) (λ l. not (ends_in_return l)) lines

-- not all lines are whole if the first is not
pub first_not_whole : (lines : List (List ℕ)) (line : List ℕ) (r : Option (Bor (List ℕ)))
    → MatchOption r (lines ≡ line ∷ []) (λ x. lines ≡ line ∷ lines_of x.now) → is_whole line ≡ false → list_all is_whole lines ≡ false
first_not_whole lines line None e h = rw e (rw h refl)
first_not_whole lines line (Some x) e h = rw e (rw h refl)

pub last_whole : (lines : List (List ℕ)) (line : List ℕ) → lines ≡ line ∷ [] → is_whole line ≡ true → list_all is_whole lines ≡ true
last_whole lines line e h = rw e (rw h refl)

-- a line in which no quote or backslash stops the run has no quote
pub plain_unquoted : (line : List ℕ) → length line ≤ prefix_len is_plain_in_block line → list_any (λ b. b == 34) line ≡ false
plain_unquoted [] h = refl
plain_unquoted (b ∷ bs) h = elim (cases_Bool (b == 34)) [
  | inl quote ↦ absurd (omega (arith, rw quote at h))
  | inr other ↦ elim (cases_Bool (b == 92)) [
    | inl slash ↦ absurd (omega (arith, rw (other, slash) at h))
    | inr plain ↦ rw other (plain_unquoted bs (omega (arith, rw (other, plain) at h)))
  ]
]
