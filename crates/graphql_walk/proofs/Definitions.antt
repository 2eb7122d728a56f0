-- The first definition for which a test holds.
use Rattle.std.proofs.Common.{◌≡◌, ◌<◌, ◌+◌, ℕ, List, ◌∷◌, Bool, true, false, cond, Option, Some, None, length, get_or, drop, map, refl, sym, ap}
use Rattle.graphql_core.proofs.{item_here}

-- the definition at i, and those after it
pub definition_here : {A B : Type 0} (f : A → B) (xs : List A) (i : ℕ) (x : A) → i < length xs → x ≡ get_or xs i x
    → map f (drop i xs) ≡ f x ∷ map f (drop (i + 1) xs)
definition_here f xs i x h is = ap (λ ys. map f ys) (item_here xs i x h is)

none_is_not_some : {A : Type 0} {x : A} → None ≡ Some x → ⊥
none_is_not_some p = cc

module _ {A : Type 0} (d : A) (r : Option A) where
  -- the test fails
  pub next_one : (b : Bool) → None ≡ cond b (Some d) None → cond b (Some d) r ≡ r
  next_one true e = absurd (none_is_not_some e)
  next_one false e = refl

  -- the test holds
  pub found_one : (b : Bool) (o : A) → Some o ≡ cond b (Some d) None → cond b (Some d) r ≡ Some o
  found_one true o e = sym e
  found_one false o e = absurd (none_is_not_some (sym e))
