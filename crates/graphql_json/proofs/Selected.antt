-- The selections of a field: left out, or a member.
use Rattle.std.proofs.Common.{◌≡◌, ◌++◌, ◌<◌, ◌∷◌, [], ℕ, List, length, refl, codes, arith}
use Rattle.graphql_query.specs.Tree.{selection_set_view}
use Rattle.graphql_query.specs.declared.tree.Selection.{Selection}
use Rattle.graphql_query.specs.declared.tree.SelectionSet.{SelectionSet}
use Rattle.graphql_query.proofs.layouts.LayoutTexts.{selection_set_parts, items_of}
use Rattle.graphql_json.specs.{later, label, selected_json, selection_set_json}
use Rattle.graphql_json.specs.Json.{json_text}
use Rattle.graphql_json.proofs.Texts.{later-one, later-nil}

module _ {N T : Type 0} (bytes : T → List ℕ) where
  pub selected_none : (s : SelectionSet N T) → items_of bytes s ≡ [] → later (selected_json (selection_set_view bytes s)) ≡ []
  selected_none s e = rw (selection_set_parts bytes s, e) later-nil

  selected_some_at : (s : SelectionSet N T) (xs : List (Selection N T)) → items_of bytes s ≡ xs → 0 < length xs
      → later (selected_json (selection_set_view bytes s)) ≡ label (codes "selectionSet") ++ json_text (selection_set_json (selection_set_view bytes s))
  selected_some_at s [] e h = absurd (omega arith)
  selected_some_at s (x ∷ xs) e h = rw (selection_set_parts bytes s, e) (later-one _ _)

  pub selected_some : (s : SelectionSet N T) → 0 < length (items_of bytes s)
      → later (selected_json (selection_set_view bytes s)) ≡ label (codes "selectionSet") ++ json_text (selection_set_json (selection_set_view bytes s))
  selected_some s h = selected_some_at s _ refl h
