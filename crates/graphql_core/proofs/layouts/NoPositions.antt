-- Layouts do not depend on positions.
use Rattle.std.proofs.Common.{◌≡◌, ◌++◌, ap₂, refl, codes, ℕ, List, [], ◌∷◌, map}
use Rattle.graphql_core.specs.{punctuator_part, Part, gap, StyleOptions, DirectiveTree, erase_all, erase, directive_layout}
use Rattle.graphql_core.specs.{directives_layout, each_after, separated, in_parentheses}

module _ {A : Type 0} (erased : A → A) (lines : A → List Part) (same : (x : A) → lines (erased x) ≡ lines x) where
  each_after_alike : (text : List ℕ) (xs : List A) → each_after text lines (map erased xs) ≡ each_after text lines xs
  each_after_alike text [] = refl
  each_after_alike text (x ∷ xs) = ap₂ (λ a b. gap text ++ (a ++ b)) (same x) (each_after_alike text xs)

  pub separated_alike : (xs : List A) → separated lines (map erased xs) ≡ separated lines xs
  separated_alike [] = refl
  separated_alike (x ∷ xs) = ap₂ (λ a b. a ++ b) (same x) (each_after_alike (codes "\n") xs)

  pub in_parentheses_alike : (xs : List A) → in_parentheses lines (map erased xs) ≡ in_parentheses lines xs
  in_parentheses_alike [] = refl
  in_parentheses_alike (x ∷ xs) =
      ap₂ (λ a b. punctuator_part (codes "(") ++ (a ++ (b ++ punctuator_part (codes ")")))) (same x) (each_after_alike (codes ", ") xs)

pub directives_alike : (style : StyleOptions) (margin : ℕ) (ds : List DirectiveTree)
    → directives_layout style margin (erase_all ds) ≡ directives_layout style margin ds
directives_alike style margin = each_after_alike erase (directive_layout style margin) (λ d. refl) (codes " ")
