-- Spellings that are none of a list.
use Rattle.std.proofs.Common.{◌≡◌, ℕ, Bool, true, false, ◌||◌, not, if◌then◌else◌, length, ap, ◌∙◌}
use Rattle.std.proofs.Common.{List, [], ◌∷◌, ◌++◌, refl, sym, subst, ◌⊎◌, inl, inr}
use Rattle.std.proofs.lemmas.Bool.{eq-eqb, and_from, or_cases, false_from_ne_true}
use Rattle.graphql_core.specs.{Place, same_spelling, is_listed}
use Rattle.graphql_core.specs.declared.tokenizer.token.Kind.TheVariants.{Name}
use Rattle.graphql_core.proofs.{false≢true}
use Rattle.graphql_core.proofs.grammar.Classes.{same_spelling-true}
use Rattle.graphql_standard.specs.Grammar.{locations}
use Rattle.graphql_standard.specs.Terminals.{IsTokenOf, keywords, token}
use Rattle.graphql_standard.specs.declared.terminal.Terminal.TheVariants.{OtherName}

abbrev pub IsNoneOf : List ℕ → List (List ℕ) → Type 0
IsNoneOf u [] = Unit {0}
IsNoneOf u (x ∷ xs) = (u ≡ x → ⊥) × IsNoneOf u xs

pub is_listed-none : (u : List ℕ) (xs : List (List ℕ)) → IsNoneOf u xs → is_listed u xs ≡ false
is_listed-none u [] h = refl
is_listed-none u (x ∷ xs) h =
    subst (λ (b : Bool). (b || is_listed u xs) ≡ false)
    (sym (false_from_ne_true (same_spelling u x) (λ e. h.0 (same_spelling-true u x e)))) (is_listed-none u xs h.1)

same_spelling-same : (xs : List ℕ) → same_spelling xs xs ≡ true
same_spelling-same [] = refl
same_spelling-same (x ∷ xs) = and_from _ (same_spelling xs xs) (eq-eqb x x refl) (same_spelling-same xs)

-- a listed spelling that is none of those before the last is the last
pub is_listed-last : (u x : List ℕ) (xs : List (List ℕ)) → IsNoneOf u xs → is_listed u (xs ++ x ∷ []) ≡ true
    → (same_spelling x u || false) ≡ true
is_listed-last u x [] h k = of (or_cases (same_spelling u x) false k)
  where
    of : (same_spelling u x ≡ true) ⊎ (false ≡ true) → (same_spelling x u || false) ≡ true
    of (inl e) =
        subst (λ (v : List ℕ). (same_spelling x v || false) ≡ true) (sym (same_spelling-true u x e))
        (subst (λ (b : Bool). (b || false) ≡ true) (sym (same_spelling-same x)) refl)
    of (inr e) = absurd cc
is_listed-last u x (y ∷ ys) h k =
    of (is_listed-last u x ys h.1) (or_cases (same_spelling u y) (is_listed u (ys ++ x ∷ [])) k)
  where
    of : (is_listed u (ys ++ x ∷ []) ≡ true → (same_spelling x u || false) ≡ true)
        → (same_spelling u y ≡ true) ⊎ (is_listed u (ys ++ x ∷ []) ≡ true) → (same_spelling x u || false) ≡ true
    of later (inl e) = absurd (h.0 (same_spelling-true u y e))
    of later (inr e) = later e

-- ---- lengths

-- those of a length for which this test is true
abbrev pub of_length : (ℕ → Bool) → List (List ℕ) → List (List ℕ)
of_length test [] = []
of_length test (x ∷ xs) = if test (length x) then x ∷ of_length test xs else of_length test xs

left_none : (s : Bool) (a b : Bool) → (b ≡ false → a ≡ false) → (s || b) ≡ false → (s || a) ≡ false
left_none true a b later h = h
left_none false a b later h = later h

none_left : (s : Bool) (a b : Bool) → (b ≡ false → a ≡ false) → s ≡ false → b ≡ false → (s || a) ≡ false
none_left s a b later e h = subst (λ (c : Bool). (c || a) ≡ false) (sym e) (later h)

-- only spellings of its length can be the same
pub is_listed-length : (test : ℕ → Bool) (u : List ℕ) (xs : List (List ℕ)) → test (length u) ≡ true → is_listed u (of_length test xs) ≡ false
    → is_listed u xs ≡ false
is_listed-length test u [] t h = refl
is_listed-length test u (x ∷ xs) t h = of (is_listed-length test u xs t) (test (length x)) refl h
  where
    of : (is_listed u (of_length test xs) ≡ false → is_listed u xs ≡ false) → (b : Bool) → test (length x) ≡ b
        → is_listed u (if b then x ∷ of_length test xs else of_length test xs) ≡ false → (same_spelling u x || is_listed u xs) ≡ false
    of later true e k = left_none (same_spelling u x) (is_listed u xs) (is_listed u (of_length test xs)) later k
    of later false e k =
        let apart : same_spelling u x ≡ false =
        false_from_ne_true (same_spelling u x)
        (λ same. false≢true (sym e ∙ ap (λ (l : List ℕ). test (length l)) (sym (same_spelling-true u x same)) ∙ t)) in
        none_left (same_spelling u x) (is_listed u xs) (is_listed u (of_length test xs)) later apart k

-- a name is no keyword if it is none of those of its length
pub other_name : (test : ℕ → Bool) (u : List ℕ) (p : Place) → test (length u) ≡ true
    → IsNoneOf u (of_length test (keywords ++ locations)) → IsTokenOf OtherName (token Name u p)
other_name test u p t none =
    let others = of_length test (keywords ++ locations) in
    ap (λ (b : Bool). not b || false) (is_listed-length test u (keywords ++ locations) t (is_listed-none u others none))
