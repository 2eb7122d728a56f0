-- The tests on classes of tokens are correct.
use Rattle.std.proofs.Common.{◌≡◌, ℕ, Bool, true, false, not, eqb, List, [], ◌∷◌, ◌++◌, refl, sym, ap₂, ◌∙◌, inl, inr}
use Rattle.std.proofs.lemmas.Bool.{eqb-true, eq-eqb, and_parts, and_from, or_cases, or_left, or_right}
use Rattle.graphql_core.specs.{Token, Class, Spelled, AnyOf, Except, same_spelling, class_kind, takes_spelling, matches, spellings_apart, apart, same_spellings}
use Rattle.graphql_core.specs.{spellings_within, within, in_any, apart_from, all_apart, within_any, all_within}

pub same_spelling-true : (xs ys : List ℕ) → same_spelling xs ys ≡ true → xs ≡ ys
same_spelling-true [] [] h = refl
same_spelling-true [] (y ∷ ys) h = absurd cc
same_spelling-true (x ∷ xs) [] h = absurd cc
same_spelling-true (x ∷ xs) (y ∷ ys) h =
    let p = and_parts (eqb x y) (same_spelling xs ys) h in
    ap₂ (λ (a : ℕ) (b : List ℕ). a ∷ b) (eqb-true x y p.0) (same_spelling-true xs ys p.1)

not_both : (b : Bool) → b ≡ true → not b ≡ true → ⊥
not_both true h k = cc
not_both false h k = cc

spellings_apart-sound : (c d : Class) (u : List ℕ) → spellings_apart c d ≡ true → takes_spelling c u ≡ true → takes_spelling d u ≡ true → ⊥
spellings_apart-sound (Spelled k s) d u h p q = not_both (takes_spelling d s) (rw (same_spelling-true s u p) q) h
spellings_apart-sound (AnyOf k) (Spelled l s) u h p q = cc
spellings_apart-sound (AnyOf k) (AnyOf l) u h p q = cc
spellings_apart-sound (AnyOf k) (Except l ss) u h p q = cc
spellings_apart-sound (Except k ss) (Spelled l s) u h p q = not_both (takes_spelling (Except k ss) s) (rw (same_spelling-true s u q) p) h
spellings_apart-sound (Except k ss) (AnyOf l) u h p q = cc
spellings_apart-sound (Except k ss) (Except l us) u h p q = cc

pub apart-sound : (c d : Class) (t : Token) → apart c d ≡ true → matches c t ≡ true → matches d t ≡ true → ⊥
apart-sound c d t h p q =
    let p' = and_parts (eqb (class_kind c) t.kind) (takes_spelling c t.spelling) p in
    let q' = and_parts (eqb (class_kind d) t.kind) (takes_spelling d t.spelling) q in
    let k : eqb (class_kind c) (class_kind d) ≡ true = eq-eqb _ _ (eqb-true _ _ p'.0 ∙ sym (eqb-true _ _ q'.0)) in
    elim (or_cases (not (eqb (class_kind c) (class_kind d))) (spellings_apart c d) h) [
      | inl n ↦ not_both _ k n
      | inr s ↦ spellings_apart-sound c d t.spelling s p'.1 q'.1
    ]

pub same_spellings-true : (xs ys : List (List ℕ)) → same_spellings xs ys ≡ true → xs ≡ ys
same_spellings-true [] [] h = refl
same_spellings-true [] (y ∷ ys) h = absurd cc
same_spellings-true (x ∷ xs) [] h = absurd cc
same_spellings-true (x ∷ xs) (y ∷ ys) h =
    let p = and_parts (same_spelling x y) (same_spellings xs ys) h in
    ap₂ (λ (a : List ℕ) (b : List (List ℕ)). a ∷ b) (same_spelling-true x y p.0) (same_spellings-true xs ys p.1)

spellings_within-sound : (c d : Class) (u : List ℕ) → spellings_within c d ≡ true → takes_spelling c u ≡ true → takes_spelling d u ≡ true
spellings_within-sound c (AnyOf l) u h p = refl
spellings_within-sound (Spelled k s) (Spelled l v) u h p = rw (← same_spelling-true s u p) h
spellings_within-sound (Spelled k s) (Except l us) u h p = rw (← same_spelling-true s u p) h
spellings_within-sound (AnyOf k) (Spelled l v) u h p = absurd cc
spellings_within-sound (AnyOf k) (Except l us) u h p = absurd cc
spellings_within-sound (Except k ss) (Spelled l v) u h p = absurd cc
spellings_within-sound (Except k ss) (Except l us) u h p = rw (← same_spellings-true ss us h) p

pub within-sound : (c d : Class) (t : Token) → within c d ≡ true → matches c t ≡ true → matches d t ≡ true
within-sound c d t h p =
    let p' = and_parts (eqb (class_kind c) t.kind) (takes_spelling c t.spelling) p in
    let h' = and_parts (eqb (class_kind c) (class_kind d)) (spellings_within c d) h in
    and_from (eqb (class_kind d) t.kind) (takes_spelling d t.spelling) (eq-eqb _ _ (sym (eqb-true _ _ h'.0) ∙ eqb-true _ _ p'.0))
    (spellings_within-sound c d t.spelling h'.1 p'.1)

-- lists of classes

pub apart_from-sound : (c : Class) (ds : List Class) (t : Token) → apart_from c ds ≡ true → matches c t ≡ true → in_any ds t ≡ true → ⊥
apart_from-sound c [] t h p q = cc
apart_from-sound c (d ∷ ds) t h p q =
    let h' = and_parts (apart c d) (apart_from c ds) h in
    elim (or_cases (matches d t) (in_any ds t) q) [
      | inl m ↦ apart-sound c d t h'.0 p m
      | inr m ↦ apart_from-sound c ds t h'.1 p m
    ]

pub all_apart-sound : (cs ds : List Class) (t : Token) → all_apart cs ds ≡ true → in_any cs t ≡ true → in_any ds t ≡ true → ⊥
all_apart-sound [] ds t h p q = cc
all_apart-sound (c ∷ cs) ds t h p q =
    let h' = and_parts (apart_from c ds) (all_apart cs ds) h in
    elim (or_cases (matches c t) (in_any cs t) p) [
      | inl m ↦ apart_from-sound c ds t h'.0 m q
      | inr m ↦ all_apart-sound cs ds t h'.1 m q
    ]

within_any-sound : (c : Class) (ds : List Class) (t : Token) → within_any c ds ≡ true → matches c t ≡ true → in_any ds t ≡ true
within_any-sound c [] t h p = absurd cc
within_any-sound c (d ∷ ds) t h p =
    elim (or_cases (within c d) (within_any c ds) h) [
      | inl w ↦ or_left (matches d t) (in_any ds t) (within-sound c d t w p)
      | inr w ↦ or_right (matches d t) (in_any ds t) (within_any-sound c ds t w p)
    ]

pub all_within-sound : (cs ds : List Class) (t : Token) → all_within cs ds ≡ true → in_any cs t ≡ true → in_any ds t ≡ true
all_within-sound [] ds t h p = absurd cc
all_within-sound (c ∷ cs) ds t h p =
    let h' = and_parts (within_any c ds) (all_within cs ds) h in
    elim (or_cases (matches c t) (in_any cs t) p) [
      | inl m ↦ within_any-sound c ds t h'.0 m
      | inr m ↦ all_within-sound cs ds t h'.1 m
    ]

pub in_any-left : (cs ds : List Class) (t : Token) → in_any cs t ≡ true → in_any (cs ++ ds) t ≡ true
in_any-left [] ds t h = absurd cc
in_any-left (c ∷ cs) ds t h =
    elim (or_cases (matches c t) (in_any cs t) h) [
      | inl m ↦ or_left (matches c t) (in_any (cs ++ ds) t) m
      | inr m ↦ or_right (matches c t) (in_any (cs ++ ds) t) (in_any-left cs ds t m)
    ]

pub in_any-right : (cs ds : List Class) (t : Token) → in_any ds t ≡ true → in_any (cs ++ ds) t ≡ true
in_any-right [] ds t h = h
in_any-right (c ∷ cs) ds t h = or_right (matches c t) (in_any (cs ++ ds) t) (in_any-right cs ds t h)
