-- The grammar does not distinguish the tokens of a terminal.
use Rattle.std.proofs.Common.{◌≡◌, ℕ, Bool, true, false, not, eqb, ◌&&◌, ◌==◌, List, [], ◌∷◌, refl, sym, ap, ap₂}
use Rattle.std.proofs.Common.{subst, ◌∙◌, ◌⊎◌, inl, inr}
use Rattle.std.proofs.lemmas.Bool.{eqb-true, and_parts, and_from, or_cases, both_ways, false_from_ne_true}
use Rattle.graphql_core.specs.{Token, Class, Spelled, AnyOf, Except, same_spelling, is_listed, matches, accepts}
use Rattle.graphql_core.specs.{in_any}
use Rattle.graphql_core.specs.theory.Classes.{apart, within}
use Rattle.graphql_core.proofs.grammar.Classes.{same_spelling-true, apart-sound, within-sound}
use Rattle.graphql_standard.specs.Grammar.{standard, is_good, locations}
use Rattle.graphql_standard.specs.Terminals.{classes_of, IsTokenOf}
use Rattle.graphql_standard.specs.steps.Groups.{sample_of}
use Rattle.graphql_standard.specs.steps.Fitting.{named_classes}
use Rattle.graphql_standard.specs.declared.terminal.Terminal.{Terminal}
use Rattle.graphql_standard.proofs.Alike.{SameAt, SameFor}
use Rattle.graphql_standard.proofs.TerminalLists.{of_each}

-- ---- lists of spellings

abbrev are_listed : List (List ℕ) → List (List ℕ) → Bool
are_listed [] ys = true
are_listed (x ∷ xs) ys = is_listed x ys && are_listed xs ys

listed_through : (u : List ℕ) (xs ys : List (List ℕ)) → are_listed xs ys ≡ true → is_listed u xs ≡ true → is_listed u ys ≡ true
listed_through u [] ys h k = absurd cc
listed_through u (x ∷ xs) ys h k = of (λ e. listed_through u xs ys (and_parts (is_listed x ys) (are_listed xs ys) h).1 e) (or_cases (same_spelling u x) (is_listed u xs) k)
  where
    p : (is_listed x ys ≡ true) × (are_listed xs ys ≡ true)
    p = and_parts (is_listed x ys) (are_listed xs ys) h

    of : (is_listed u xs ≡ true → is_listed u ys ≡ true) → (same_spelling u x ≡ true) ⊎ (is_listed u xs ≡ true) → is_listed u ys ≡ true
    of later (inl e) = subst (λ (v : List ℕ). is_listed v ys ≡ true) (sym (same_spelling-true u x e)) p.0
    of later (inr e) = later e

not_false : (b : Bool) → not b ≡ true → b ≡ false
not_false true h = absurd cc
not_false false h = refl

unlisted_through : (u : List ℕ) (xs ys : List (List ℕ)) → are_listed xs ys ≡ true → not (is_listed u ys) ≡ true → is_listed u xs ≡ false
unlisted_through u xs ys h k =
    false_from_ne_true (is_listed u xs) (λ e. both_ways (is_listed u ys) (not_false (is_listed u ys) k) (listed_through u xs ys h e))

-- ---- tests of two classes

-- each token of the first class is of the second
abbrev contained : Class → Class → Bool
contained (Except k ss) (Except l us) = (k == l) && are_listed us ss
contained c d = within c d

-- each token of the class `d` is accepted as a leaf of the class `c`, or none is
abbrev accepts_all : Class → Class → Bool → Bool
accepts_all (Except k []) (Spelled j s) a = elim a [ true ↦ is_listed s locations | false ↦ not (is_listed s locations) ]
accepts_all (Except k []) (Except j ss) a = not a && are_listed locations ss
accepts_all (Except k []) (AnyOf j) a = false
accepts_all c d a = a

abbrev agrees : Class → Class → Bool → Bool → Bool
agrees d c true a = contained d c && accepts_all c d a
agrees d c false a = apart d c && not a

abbrev all_agree : List Class → Token → Class → Bool
all_agree [] u c = true
all_agree (d ∷ ds) u c = agrees d c (matches c u) (accepts standard c u) && all_agree ds u c

abbrev agree_for : List Class → Token → List Class → Bool
agree_for ds u [] = true
agree_for ds u (c ∷ cs) = all_agree ds u c && agree_for ds u cs

abbrev is_uniform : Terminal → Bool
is_uniform k = agree_for (classes_of k) (sample_of k) named_classes

-- ---- the tests are correct

spelled_as : (j : ℕ) (s : List ℕ) (t : Token) → matches (Spelled j s) t ≡ true → s ≡ t.spelling
spelled_as j s t h = same_spelling-true s t.spelling (and_parts (eqb j t.kind) (same_spelling s t.spelling) h).1

unlisted : (j : ℕ) (ss : List (List ℕ)) (t : Token) → matches (Except j ss) t ≡ true → not (is_listed t.spelling ss) ≡ true
unlisted j ss t h = (and_parts (eqb j t.kind) (not (is_listed t.spelling ss)) h).1

contained-sound : (c d : Class) (t : Token) → contained c d ≡ true → matches c t ≡ true → matches d t ≡ true
contained-sound (Except k ss) (Except l us) t h m =
    let p = and_parts (eqb k l) (are_listed us ss) h in
    and_from (eqb l t.kind) (not (is_listed t.spelling us))
    (subst (λ (i : ℕ). eqb i t.kind ≡ true) (eqb-true k l p.0) (and_parts (eqb k t.kind) (not (is_listed t.spelling ss)) m).0)
    (ap not (unlisted_through t.spelling us ss p.1 (unlisted k ss t m)))
contained-sound (Except k ss) (Spelled l s) t h m = within-sound (Except k ss) (Spelled l s) t h m
contained-sound (Except k ss) (AnyOf l) t h m = within-sound (Except k ss) (AnyOf l) t h m
contained-sound (Spelled k s) d t h m = within-sound (Spelled k s) d t h m
contained-sound (AnyOf k) d t h m = within-sound (AnyOf k) d t h m

accepts_all-sound : (c d : Class) (t : Token) (a : Bool) → accepts_all c d a ≡ true → matches d t ≡ true → is_good c t ≡ a
accepts_all-sound (Except k []) (Spelled j s) t true h m =
    ap (λ (u : List ℕ). is_listed u locations) (sym (spelled_as j s t m)) ∙ h
accepts_all-sound (Except k []) (Spelled j s) t false h m =
    ap (λ (u : List ℕ). is_listed u locations) (sym (spelled_as j s t m)) ∙ not_false (is_listed s locations) h
accepts_all-sound (Except k []) (Except j ss) t true h m = absurd cc
accepts_all-sound (Except k []) (Except j ss) t false h m = unlisted_through t.spelling locations ss h (unlisted j ss t m)
accepts_all-sound (Except k []) (AnyOf j) t a h m = absurd cc
accepts_all-sound (Except k (s ∷ ss)) d t a h m = sym h
accepts_all-sound (Spelled k s) d t a h m = sym h
accepts_all-sound (AnyOf k) d t a h m = sym h

agrees-sound : (c d : Class) (t : Token) (m a : Bool) → agrees d c m a ≡ true → matches d t ≡ true
    → (matches c t ≡ m) × (accepts standard c t ≡ a)
agrees-sound c d t true a h n =
    let p = and_parts (contained d c) (accepts_all c d a) h in
    let e = contained-sound d c t p.0 n in
    (e, ap₂ (λ (x y : Bool). x && y) e (accepts_all-sound c d t a p.1 n))
agrees-sound c d t false a h n =
    let p = and_parts (apart d c) (not a) h in
    let e = false_from_ne_true (matches c t) (λ k. apart-sound d c t p.0 n k) in
    (e, ap (λ (x : Bool). x && is_good c t) e ∙ sym (not_false a p.1))

same_at : (ds : List Class) (t u : Token) (c : Class) → all_agree ds u c ≡ true → in_any ds t ≡ true → SameAt standard t u c
same_at [] t u c h n = absurd cc
same_at (d ∷ ds) t u c h n = of (λ e. same_at ds t u c (and_parts (agrees d c (matches c u) (accepts standard c u)) (all_agree ds u c) h).1 e) (or_cases (matches d t) (in_any ds t) n)
  where
    p : (agrees d c (matches c u) (accepts standard c u) ≡ true) × (all_agree ds u c ≡ true)
    p = and_parts (agrees d c (matches c u) (accepts standard c u)) (all_agree ds u c) h

    of : (in_any ds t ≡ true → SameAt standard t u c) → (matches d t ≡ true) ⊎ (in_any ds t ≡ true) → SameAt standard t u c
    of later (inl e) = agrees-sound c d t (matches c u) (accepts standard c u) p.0 e
    of later (inr e) = later e

same_for : (ds : List Class) (t u : Token) (cs : List Class) → agree_for ds u cs ≡ true → in_any ds t ≡ true → SameFor standard t u cs
same_for ds t u [] h n = tt
same_for ds t u (c ∷ cs) h n =
    let p = and_parts (all_agree ds u c) (agree_for ds u cs) h in (same_at ds t u c p.0 n, same_for ds t u cs p.1 n)

-- a token of the terminal is as its sample
pub alike : (k : Terminal) (t : Token) → IsTokenOf k t → SameFor standard t (sample_of k) named_classes
alike k t h = same_for (classes_of k) t (sample_of k) named_classes (of_each is_uniform refl k) h
