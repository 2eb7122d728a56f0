-- The models of selections, as the readers build them.
use Rattle.std.proofs.Common.{◌≡◌, ℕ, List, length, drop, map, option_map, Option, Vec, Global, rules, ap, ◌∙◌}
use Rattle.graphql_core.specs.{place_of, arguments_view, directives_view}
use Rattle.graphql_core.specs.declared.position.Pos.{Pos}
use Rattle.graphql_core.specs.declared.common.tree.Value.{Value}
use Rattle.graphql_core.specs.declared.common.tree.Directive.{Directive}
use Rattle.graphql_query.specs.declared.tree.TypeCondition.{TypeCondition}
use Rattle.graphql_query.specs.declared.tree.FragmentSpread.{FragmentSpread}
use Rattle.graphql_query.specs.declared.tree.Field.{Field}
use Rattle.graphql_query.specs.declared.tree.InlineFragment.{InlineFragment}
use Rattle.graphql_query.specs.declared.tree.SelectionSet.{SelectionSet}
use Rattle.graphql_query.specs.declared.tree.Selection.{Selection, the_lemmas}
use Rattle.graphql_query.specs.declared.tree.Selection.TheViews.{roll-Field, roll-InlineFragment, roll-SelectionSet}
use Rattle.graphql_query.specs.{field, inline, set, SelectionSetTree, trees_of, type_condition_view, field_view, fragment_spread_view, inline_fragment_view}
use Rattle.graphql_query.specs.{selection_view, selection_set_view, AddsSet}
use Rattle.graphql_core.proofs.readers.TakenOff.{taken_off}
use Rattle.graphql_query.specs.declared.tree.Selection.TheViews as made
use Rattle.graphql_query.specs.declared.tree.Selection.TheBlock as block

module _ {N T : Type 0} (b : T → List ℕ) where
  pub field_made : (p : Pos) (a : Option T) (n : T) (xs : Vec (T × Value N T) Global) (ds : Vec (Directive N T) Global) (s : SelectionSet N T)
      → field_view b (roll-Field N T (record { position = p; alias = a; name = n; arguments = xs; directives = ds; selection_set = s }))
      ≡ field (place_of p) (option_map b a) (b n) (arguments_view b xs.items) (directives_view b ds.items) (selection_set_view b s)
  field_made p a n xs ds s = search (rules, the_lemmas)

  pub inline_fragment_made : (p : Pos) (c : Option (TypeCondition N T)) (ds : Vec (Directive N T) Global) (s : SelectionSet N T)
      → inline_fragment_view b (roll-InlineFragment N T (record { position = p; type_condition = c; directives = ds; selection_set = s }))
      ≡ inline (place_of p) (option_map (type_condition_view b) c) (directives_view b ds.items) (selection_set_view b s)
  inline_fragment_made p c ds s = search (rules, the_lemmas)

  pub field_selected : (f : Field N T) → selection_view b (made.Field f) ≡ field_view b f
  field_selected f = search (rules, the_lemmas)

  pub fragment_spread_selected : (f : FragmentSpread N T) → selection_view b (block.FragmentSpread f) ≡ fragment_spread_view {N = N} b f
  fragment_spread_selected f = search (rules, the_lemmas)

  pub inline_fragment_selected : (f : InlineFragment N T) → selection_view b (made.InlineFragment f) ≡ inline_fragment_view b f
  inline_fragment_selected f = search (rules, the_lemmas)

  pub selection_set_made : (p q : Pos) (ss : Vec (Selection N T) Global)
      → selection_set_view b (roll-SelectionSet N T (record { span = (p, q); items = ss })) ≡ set (place_of p) (place_of q)
      (trees_of (map (selection_view b) ss.items))
  selection_set_made p q ss = search (rules, the_lemmas)

  -- a selection set whose selections were collected at the end of others and then split off
  pub selection_set_taken : (start found : List (Selection N T)) (n : ℕ) → n ≡ length start → (span : Pos × Pos) (ss : Vec (Selection N T) Global)
      (tree : SelectionSetTree) → ss.items ≡ drop n found → AddsSet b start found span tree
      → selection_set_view b (roll-SelectionSet N T (record { span = span; items = ss })) ≡ tree
  selection_set_taken start found n count span ss tree off (xs, added, is) =
      selection_set_made span.0 span.1 ss ∙ ap (λ l. set (place_of span.0) (place_of span.1) (trees_of l))
      (taken_off (selection_view b) start found xs added n count ss.items off) ∙ is
