-- Elements that are seen one after another, and a maximum of levels over them.
use Rattle.std.proofs.Common.{◌≡◌, ◌∙◌, ◌≤◌, ◌<◌, ◌+◌, ℕ, List, [], ◌∷◌, length, drop, get_or, max, min, ap, subst, sym, arith}
use Rattle.std.proofs.lemmas.List.{at_drop_all, at_drop_more}

module _ {X T : Type 0} (view : List X → T) (xs all : List X) (i : ℕ) (seen : length xs ≤ i) (same : xs ≡ all) where
  -- once all elements were seen, the count so far is that of all
  pub all_counted : (levels : T → ℕ) (most bound : ℕ) → levels (view []) ≡ 0 → max most (min (levels (view (drop i xs))) bound) ≡ min (levels (view xs)) bound
      → most ≡ min (levels (view all)) bound
  all_counted levels most bound none count =
      let left = rw (at_drop_all view xs i seen, none, same) at count in
      omega (arith, left)

  -- once all elements were seen, what follows for those seen holds of all
  pub all_hold : (P : T → Type 0) → P (view []) → (P (view (drop i xs)) → P (view xs)) → P (view all)
  all_hold P none law = subst (λ ys. P (view ys)) same (law (subst P (sym (at_drop_all view xs i seen)) none))

-- the element at i, and those after it
pub item_here : {X : Type 0} (xs : List X) (i : ℕ) (x : X) → i < length xs → x ≡ get_or xs i x → drop i xs ≡ x ∷ drop (i + 1) xs
item_here xs i x h is = at_drop_more (λ ys. ys) xs i x h ∙ ap (λ y. y ∷ drop (i + 1) xs) (sym is)
