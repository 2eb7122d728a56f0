-- Lists of trees, each of which is seen as another.
use Rattle.std.proofs.Common.{◌≡◌, ◌<◌, ◌++◌, ◌∙◌, [], ◌∷◌, ap, sym, refl, codes, ℕ, List, length, map, max, append_assoc, arith}
use Rattle.graphql_core.specs.{text_of, Part, each_after, later, separated, after_commas, in_parentheses, most, joined}
use Rattle.std.specs.List.{AllByRecursion, flat_map}
use Rattle.graphql_core.proofs.layouts.Appending.{text_append}
use Rattle.graphql_core.proofs.layouts.Enclosed.{next_text, first_text}

module _ {X T : Type 0} (view : X → T) where
  pub most_seen : (f : T → ℕ) (xs : List X) → most (λ x. f (view x)) xs ≡ most f (map view xs)
  most_seen f [] = refl
  most_seen f (x ∷ xs) = ap (max (f (view x))) (most_seen f xs)

  pub all_seen : (P : T → Type 0) (xs : List X) → AllByRecursion (λ x. P (view x)) xs → AllByRecursion P (map view xs)
  all_seen P [] h = tt
  all_seen P (x ∷ xs) h = (h.0, all_seen P xs h.1)

-- ---- outputs of trees, with a separator between two

module _ {X T : Type 0} (view : X → T) (lines : T → List Part) where
  later_seen : (separator : List ℕ) (xs : List X)
      → flat_map (λ (u : List ℕ). separator ++ u) (map (λ x. text_of (lines (view x))) xs) ≡ text_of (each_after separator lines (map view xs))
  later_seen separator [] = refl
  later_seen separator (x ∷ xs) = ap (λ r. (separator ++ text_of (lines (view x))) ++ r) (later_seen separator xs)
      ∙ sym (next_text separator (lines (view x)) (each_after separator lines (map view xs)))

  -- with an empty line between two
  pub separated_seen : (xs : List X) → joined (codes "\n") (map (λ x. text_of (lines (view x))) xs) ≡ text_of (separated lines (map view xs))
  separated_seen [] = refl
  separated_seen (x ∷ xs) = ap (λ r. text_of (lines (view x)) ++ r) (later_seen (codes "\n") xs)
      ∙ sym (text_append (lines (view x)) (later lines (map view xs)))

  -- in parentheses, if there are any
  pub in_parentheses_seen : (xs : List X) → 0 < length xs → (codes "(" ++ joined (codes ", ") (map (λ x. text_of (lines (view x))) xs)) ++ codes ")"
      ≡ text_of (in_parentheses lines (map view xs))
  in_parentheses_seen [] h = absurd (omega arith)
  in_parentheses_seen (x ∷ xs) h =
      let one = lines (view x) in
      let others = after_commas lines (map view xs) in
      ap (λ r. (codes "(" ++ (text_of one ++ r)) ++ codes ")") (later_seen (codes ", ") xs)
      ∙ append_assoc (codes "(" ++ text_of one) (text_of others) (codes ")") ∙ first_text one others
