-- The last line of a text.
use Rattle.std.specs.List.{list_all}
use Rattle.std.specs.Str.Pattern.{RFindsChar}
use Rattle.std.proofs.Common.{◌≡◌, ◌≤◌, ◌<◌, ◌+◌, ◌==◌, ℕ, zero, suc, true, Option, Some, None, MatchOption, Bor}
use Rattle.std.proofs.Common.{List, [], ◌∷◌, ◌++◌, length, take, drop, get_or, refl, sym, ap, ◌∙◌, subst, inl, inr}
use Rattle.std.proofs.Common.{append_assoc, append-nil, take-append-drop, arith}
use Rattle.std.proofs.lemmas.Bool.{and_from, and_parts, eqb-true, false_from_ne_true}
use Rattle.std.proofs.lemmas.List.Folds.{list_all-append}
use Rattle.std.proofs.lemmas.Str.{len_utf8_ascii}
use Rattle.std.proofs.lemmas.Str.Pattern.{NoCharPasses-char}
use Rattle.graphql_core.specs.{is_in_line}
use Rattle.graphql_standard.specs.Places.{EndsInLineEnd, IsLastLine}
use Rattle.graphql_standard.specs.steps.Lines.{EndsIn, IsAfterLast, is_other}

-- ---- after the last of a byte

all_others : (c : ℕ) (xs : List ℕ) → ((k : ℕ) → k < length xs → get_or xs k 0 ≡ c → ⊥) → list_all (is_other c) xs ≡ true
all_others c [] h = refl
all_others c (x ∷ xs) h =
    and_from (is_other c x) (list_all (is_other c) xs)
    (rw (false_from_ne_true (x == c) (λ t. h zero (omega arith) (eqb-true x c t))) refl)
    (all_others c xs (λ k l e. h (suc k) (omega (arith, l)) e))

one_dropped : (xs : List ℕ) (i : ℕ) → i < length xs → drop i xs ≡ get_or xs i 0 ∷ drop (suc i) xs
one_dropped [] i l = absurd (omega (arith, l))
one_dropped (x ∷ xs) zero l = refl
one_dropped (x ∷ xs) (suc i) l = one_dropped xs i (omega (arith, l))

-- the clause of `rsplit_once` at an ASCII character
abbrev pub SplitsAt : (c : ℕ) (text : List ℕ) → Option (Bor (List ℕ) × Bor (List ℕ)) → Type 0
SplitsAt c text r =
    MatchOption r (RFindsChar c text None)
    (λ x. (i : ℕ) × (j : ℕ) × RFindsChar c text (Some (i, j)) × (x.0.now ≡ take i text) × (x.1.now ≡ drop j text)
    × (i ≤ j) × (length x.0.now ≡ i) × (length x.1.now + j ≡ length text))

pub after_none : (c : ℕ) (text : List ℕ) → SplitsAt c text None → c < 128 → IsAfterLast c text text
after_none c text h low = ([], refl, inl refl, all_others c text (λ k l e. NoCharPasses-char c text k h low l e))

pub after_some : (c : ℕ) (text : List ℕ) (x : Bor (List ℕ) × Bor (List ℕ)) → SplitsAt c text (Some x) → c < 128
    → IsAfterLast c text x.1.now
after_some c text x h low =
    let i = h.0 in
    let j = h.1 in
    let next : suc i ≡ j = omega (arith, h.2.1.ends, len_utf8_ascii c low) in
    let here = one_dropped text i (omega (arith, h.7, next)) ∙ ap (λ b. b ∷ drop (suc i) text) (h.2.1.byte low) in
    let rest : drop (suc i) text ≡ x.1.now = ap (λ n. drop n text) next ∙ sym h.4 in
    let whole = sym (take-append-drop i text) ∙ ap (λ (l : List ℕ). take i text ++ l) (here ∙ ap (λ (l : List ℕ). c ∷ l) rest) in (
      take i text ++ c ∷ [],
      whole ∙ sym (append_assoc (take i text) (c ∷ []) x.1.now),
      inr (take i text, refl),
      subst (λ (l : List ℕ). list_all (is_other c) l ≡ true) (sym h.4)
          (all_others c (drop j text) (λ k l e. NoCharPasses-char c (drop j text) k h.2.0 low l e)),
    )

-- ---- the last line

both_others : (xs : List ℕ) → list_all (is_other 10) xs ≡ true → list_all (is_other 13) xs ≡ true → list_all is_in_line xs ≡ true
both_others [] h k = refl
both_others (x ∷ xs) h k =
    let p = and_parts (is_other 10 x) (list_all (is_other 10) xs) h in
    let q = and_parts (is_other 13 x) (list_all (is_other 13) xs) k in
    and_from (is_in_line x) (list_all is_in_line xs) (and_from (is_other 10 x) (is_other 13 x) p.0 q.0) (both_others xs p.1 q.1)

both_ends : (a b : List ℕ) → EndsIn 10 a → EndsIn 13 b → EndsInLineEnd (a ++ b)
both_ends a b first (inr (f, e)) =
    inr (a ++ f, 13, ap (λ (l : List ℕ). a ++ l) e ∙ sym (append_assoc a f (13 ∷ [])), refl)
both_ends a b (inl e) (inl f) = inl (ap (λ (l : List ℕ). l ++ b) e ∙ f)
both_ends a b (inr (g, e)) (inl f) = inr (g, 10, ap (λ (l : List ℕ). a ++ l) f ∙ append-nil a ∙ e, refl)

pub last_line : (text rest line : List ℕ) → IsAfterLast 10 text rest → IsAfterLast 13 rest line → IsLastLine text line
last_line text rest line (a, e, ends, others) (b, f, ends', others') =
    let parts = subst (λ (l : List ℕ). list_all (is_other 10) l ≡ true) f others in
    let feeds = and_parts (list_all (is_other 10) b) (list_all (is_other 10) line) (sym (list_all-append (is_other 10) b line) ∙ parts) in (
      a ++ b,
      e ∙ ap (λ (l : List ℕ). a ++ l) f ∙ sym (append_assoc a b line),
      both_ends a b ends ends',
      both_others line feeds.1 others',
    )
