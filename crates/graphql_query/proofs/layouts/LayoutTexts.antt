-- Trees and their models, and layouts in the order in which they are written.
use Rattle.std.proofs.Common.{◌≡◌, ◌++◌, ◌∙◌, ap, sym, refl, codes, ℕ, ◌+◌, ◌<◌, length, List, [], ◌∷◌, get_or, drop, option_map, append_assoc, rules, arith}
use Rattle.std.proofs.Common.{true, false, ◌==◌, vec_len}
use Rattle.std.proofs.lemmas.Bool.{eqb-true, eqb-false}
use Rattle.std.proofs.lemmas.List.{at_drop_more, nil_from_length}
use Rattle.graphql_core.specs.{name_part, punctuator_part, text_of, place_of, StyleOptions, Part, gap, arguments_view, directives_view, Weights}
use Rattle.graphql_core.proofs.{text_append}
use Rattle.graphql_query.specs.{more, field, inline, set, type_condition_view, selection_view, selections_view, field_view, inline_fragment_view}
use Rattle.graphql_query.specs.{selection_set_view, IsWellFormedSet, selected_layout, selection_set_layout, selected_depth, selection_set_depth}
use Rattle.graphql_query.specs.declared.tree.Selection.{Selection}
use Rattle.graphql_query.specs.declared.tree.Field.{Field}
use Rattle.graphql_query.specs.declared.tree.InlineFragment.{InlineFragment}
use Rattle.graphql_query.specs.declared.tree.SelectionSet.{SelectionSet, out-SelectionSet, the_lemmas}

-- ---- the parts of a tree

module _ {N T : Type 0} (bytes : T → List ℕ) where
  -- the selections of a selection set
  abbrev pub items_of : SelectionSet N T → List (Selection N T)
  items_of s = (out-SelectionSet N T s).items.items

  pub selection_set_parts : (s : SelectionSet N T)
      → selection_set_view bytes s ≡ set (place_of (out-SelectionSet N T s).span.0) (place_of (out-SelectionSet N T s).span.1)
      (selections_view bytes (items_of s))
  selection_set_parts s = search (rules, the_lemmas)

  pub field_parts : (f : Field N T)
      → field_view bytes f ≡ field (place_of f.position) (option_map bytes f.alias) (bytes f.name) (arguments_view bytes f.arguments.items)
      (directives_view bytes f.directives.items) (selection_set_view bytes f.selection_set)
  field_parts f = search (rules, the_lemmas)

  pub inline_fragment_parts : (f : InlineFragment N T)
      → inline_fragment_view bytes f ≡ inline (place_of f.position) (option_map (type_condition_view {N = N} bytes) f.type_condition)
      (directives_view bytes f.directives.items) (selection_set_view bytes f.selection_set)
  inline_fragment_parts f = search (rules, the_lemmas)

  -- the selections from i on: the one at i, and those from i + 1 on
  pub selection_here : (xs : List (Selection N T)) (i : ℕ) (x : Selection N T) → i < length xs → x ≡ get_or xs i x
      → selections_view bytes (drop i xs) ≡ more (selection_view bytes x) (selections_view bytes (drop (i + 1) xs))
  selection_here xs i x h is = at_drop_more (selections_view bytes) xs i x h
      ∙ ap (λ y. more (selection_view bytes y) (selections_view bytes (drop (i + 1) xs))) (sym is)

  -- the length decides whether a selection set is empty
  pub no_items : (s : SelectionSet N T) → (vec_len (out-SelectionSet N T s).items == 0) ≡ true → items_of s ≡ []
  no_items s e = nil_from_length (items_of s) (omega (arith, eqb-true _ _ e, (out-SelectionSet N T s).items.ok.0))

  pub some_items : (s : SelectionSet N T) → (vec_len (out-SelectionSet N T s).items == 0) ≡ false → 0 < length (items_of s)
  some_items s e = omega (arith, eqb-false _ _ e, (out-SelectionSet N T s).items.ok.0)

  -- a field without selections
  pub nothing_levels : (s : SelectionSet N T) (w : Weights) → items_of s ≡ [] → selected_depth w (selection_set_view bytes s) ≡ 0
  nothing_levels s w e = rw (selection_set_parts s, e) refl

  pub nothing_well_formed : (s : SelectionSet N T) → items_of s ≡ [] → IsWellFormedSet (selection_set_view bytes s)
  nothing_well_formed s e = rw (selection_set_parts s, e) tt

  pub nothing_layout : (s : SelectionSet N T) (style : StyleOptions) (margin : ℕ) → items_of s ≡ []
      → selected_layout style margin (selection_set_view bytes s) ≡ gap (codes "\n")
  nothing_layout s style margin e = rw (selection_set_parts s, e) refl

  -- a field with selections
  some_levels_at : (s : SelectionSet N T) (w : Weights) (xs : List (Selection N T)) → items_of s ≡ xs → 0 < length xs
      → selected_depth w (selection_set_view bytes s) ≡ selection_set_depth w (selection_set_view bytes s)
  some_levels_at s w [] e h = absurd (omega arith)
  some_levels_at s w (x ∷ xs) e h = rw (selection_set_parts s, e) refl

  pub some_levels : (s : SelectionSet N T) (w : Weights) → 0 < length (items_of s)
      → selected_depth w (selection_set_view bytes s) ≡ selection_set_depth w (selection_set_view bytes s)
  some_levels s w h = some_levels_at s w _ refl h

  some_layout_at : (s : SelectionSet N T) (style : StyleOptions) (margin : ℕ) (xs : List (Selection N T)) → items_of s ≡ xs → 0 < length xs
      → selected_layout style margin (selection_set_view bytes s) ≡ gap (codes " ") ++ selection_set_layout style margin (selection_set_view bytes s)
  some_layout_at s style margin [] e h = absurd (omega arith)
  some_layout_at s style margin (x ∷ xs) e h = rw (selection_set_parts s, e) refl

  pub some_layout : (s : SelectionSet N T) (style : StyleOptions) (margin : ℕ) → 0 < length (items_of s)
      → selected_layout style margin (selection_set_view bytes s) ≡ gap (codes " ") ++ selection_set_layout style margin (selection_set_view bytes s)
  some_layout s style margin h = some_layout_at s style margin _ refl h

-- ---- layouts in the order in which they are written

pub variable_definition_text : (n : List ℕ) (declared default directives : List Part)
    → (((codes "$" ++ (n ++ codes ": ")) ++ text_of declared) ++ text_of default) ++ text_of directives
    ≡ text_of (punctuator_part (codes "$") ++ (name_part n ++ (punctuator_part (codes ":") ++ (gap (codes " ") ++ (declared ++ (default ++ directives))))))
variable_definition_text n declared default directives = simp (text_append, append_assoc)

pub fragment_definition_text : (n : List ℕ) (condition directives selected : List Part)
    → (((codes "fragment " ++ (n ++ codes " ")) ++ text_of condition) ++ text_of directives) ++ (codes " " ++ text_of selected)
    ≡ text_of (name_part (codes "fragment")
    ++ (gap (codes " ") ++ (name_part n ++ (gap (codes " ") ++ (condition ++ (directives ++ (gap (codes " ") ++ selected)))))))
fragment_definition_text n condition directives selected = simp (text_append, append_assoc)

pub operation_text : (word : List ℕ) (name variables directives selected : List Part)
    → (((word ++ text_of name) ++ text_of variables) ++ text_of directives) ++ (codes " " ++ text_of selected)
    ≡ text_of (name_part word ++ (name ++ (variables ++ (directives ++ (gap (codes " ") ++ selected)))))
operation_text word name variables directives selected = simp (text_append, append_assoc)
