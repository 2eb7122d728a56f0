-- The next item of a list, and which lists of classes it is in.
use Rattle.std.proofs.Common.{◌≡◌, Bool, true, false, List, [], ◌∷◌, ◌++◌, Option, Some, None, refl, inl, inr, ◌⊎◌}
use Rattle.std.proofs.lemmas.Bool.{false_from_ne_true, both_ways}
use Rattle.graphql_core.specs.{Token, Class, in_any, all_apart, all_within, peek, only_if, sees}
use Rattle.graphql_core.proofs.grammar.Classes.{all_apart-sound, all_within-sound, in_any-left, in_any-right}

-- the next item of two joined lists depends on no more of the second than its next item
pub peek-seam : (xs us vs : List Token) → peek us ≡ peek vs → peek (xs ++ us) ≡ peek (xs ++ vs)
peek-seam [] us vs h = h
peek-seam (x ∷ xs) us vs h = refl

pub peek-append : (xs ys : List Token) (t : Token) → peek (xs ++ ys) ≡ Some t → (peek xs ≡ Some t) ⊎ ((xs ≡ []) × (peek ys ≡ Some t))
peek-append [] ys t h = inr (refl, h)
peek-append (x ∷ xs) ys t h = inl h

pub append-empty : (xs ys : List Token) → xs ++ ys ≡ [] → (xs ≡ []) × (ys ≡ [])
append-empty [] ys h = (refl, h)
append-empty (x ∷ xs) ys h = absurd cc

pub sees-parts : (cs ds : List Class) (item : Option Token) → sees (cs ++ ds) item ≡ false → (sees cs item ≡ false) × (sees ds item ≡ false)
sees-parts cs ds None h = (refl, refl)
sees-parts cs ds (Some t) h = (
  false_from_ne_true (in_any cs t) (λ k. both_ways (in_any (cs ++ ds) t) h (in_any-left cs ds t k)),
  false_from_ne_true (in_any ds t) (λ k. both_ways (in_any (cs ++ ds) t) h (in_any-right cs ds t k)),
)

pub sees-only : (b : Bool) (cs : List Class) (item : Option Token) → b ≡ true → sees (only_if b cs) item ≡ false → sees cs item ≡ false
sees-only true cs item k h = h
sees-only false cs item k h = absurd cc

pub sees-within : (cs ds : List Class) (item : Option Token) → all_within cs ds ≡ true → sees ds item ≡ false → sees cs item ≡ false
sees-within cs ds None w h = refl
sees-within cs ds (Some t) w h = false_from_ne_true (in_any cs t) (λ k. both_ways (in_any ds t) h (all_within-sound cs ds t w k))

pub sees-apart : (cs ds : List Class) (item : Option Token) → all_apart cs ds ≡ true → sees ds item ≡ true → sees cs item ≡ false
sees-apart cs ds None a h = refl
sees-apart cs ds (Some t) a h = false_from_ne_true (in_any cs t) (λ k. all_apart-sound cs ds t a k h)
