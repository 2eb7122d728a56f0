-- Selection sets in a list, each with the number of sets around it.
use Rattle.std.proofs.Common.{◌≡◌, ℕ, ◌+◌, ◌<◌, ◌≤◌, List, [], ◌∷◌, ◌++◌, length, take, drop, get_or, max, sym, ap, ◌∙◌, rules, arith, length-take-le}
use Rattle.std.proofs.lemmas.List.{take_more_set, take-set, drop-append-le, get_or-take, get_or_default}
use lib.ListN.{set}
use Rattle.graphql_core.specs.{most, arguments_view, directives_view}
use Rattle.graphql_core.proofs.{item_here}
use Rattle.graphql_query.specs.{selection_view, selection_set_view, field_view, fragment_spread_view, inline_fragment_view, in_sets}
use Rattle.graphql_query.specs.{selection_depth, selected_depth, selection_set_depth}
use Rattle.graphql_query.specs.declared.tree.Field.{Field}
use Rattle.graphql_query.specs.declared.tree.FragmentSpread.{FragmentSpread}
use Rattle.graphql_query.specs.declared.tree.InlineFragment.{InlineFragment}
use Rattle.graphql_query.specs.declared.tree.SelectionSet.{the_lemmas}
use Rattle.graphql_query.specs.declared.tree.Selection.TheVariants as selections
use Rattle.graphql_query.proofs.layouts.LayoutTexts.{field_parts, inline_fragment_parts}
use Rattle.graphql_query.proofs.layouts.SetsDecide.{no_arguments, no_directives}

-- ---- how deep a selection is

module _ {N T : Type 0} (bytes : T → List ℕ) where
  pub field_depth : (f : Field N T)
      → selection_depth in_sets (selection_view bytes (selections.Field f)) ≡ selected_depth in_sets (selection_set_view bytes f.selection_set)
  field_depth f =
      let seen : selection_view bytes (selections.Field f) ≡ field_view bytes f = search (rules, the_lemmas) in
      let given = no_arguments (arguments_view bytes f.arguments.items) in
      let stated = no_directives (directives_view bytes f.directives.items) in
      rw (seen, field_parts bytes f) (omega (arith, given, stated))

  pub fragment_depth : (f : InlineFragment N T)
      → selection_depth in_sets (selection_view bytes (selections.InlineFragment f)) ≡ selection_set_depth in_sets (selection_set_view bytes f.selection_set)
  fragment_depth f =
      let seen : selection_view bytes (selections.InlineFragment f) ≡ inline_fragment_view bytes f = search (rules, the_lemmas) in
      let stated = no_directives (directives_view bytes f.directives.items) in
      rw (seen, inline_fragment_parts bytes f) (omega (arith, stated))

  pub spread_depth : (f : FragmentSpread N T) → selection_depth in_sets (selection_view bytes (selections.FragmentSpread f)) ≡ 0
  spread_depth f =
      let seen : selection_view bytes (selections.FragmentSpread f) ≡ fragment_spread_view bytes f = search (rules, the_lemmas) in
      rw seen (no_directives (directives_view bytes f.directives.items))

-- ---- how deep a list of sets reaches

module _ {A : Type 0} (f : A → ℕ) where
  most_append : (xs ys : List A) → most f (xs ++ ys) ≡ max (most f xs) (most f ys)
  most_append [] ys = omega arith
  most_append (x ∷ xs) ys = omega (arith, most_append xs ys)

  -- the element that is stored at i is the last of the first i + 1
  pub most_stored : (xs : List A) (i k : ℕ) (x : A) → i < length xs → k ≤ i
      → most f (drop k (take (i + 1) (set xs i x))) ≡ max (most f (drop k (take i xs))) (f x)
  most_stored xs i k x h b =
      let parted = drop-append-le k (take i xs) (x ∷ []) (omega (arith, length-take-le i xs (omega arith))) in
      let both = most_append (drop k (take i xs)) (x ∷ []) in
      rw (take_more_set xs i x h, parted) (omega (arith, both))

  -- and none of the first i
  pub most_kept : (xs : List A) (i k : ℕ) (x : A) → most f (drop k (take i (set xs i x))) ≡ most f (drop k (take i xs))
  most_kept xs i k x = ap (λ l. most f (drop k l)) (take-set xs i x)

  -- the element at i, whatever the default is, and those after it up to n
  pub most_next : (xs : List A) (i n : ℕ) (x d : A) → i < n → n ≤ length xs → x ≡ get_or xs i x
      → (get_or xs i d ≡ x) × (most f (drop i (take n xs)) ≡ max (f x) (most f (drop (i + 1) (take n xs))))
  most_next xs i n x d h b is = (
    get_or_default xs i d x (omega arith) ∙ sym is,
    ap (most f) (item_here (take n xs) i x (omega (arith, length-take-le n xs b)) (is ∙ sym (get_or-take n xs i x h))),
  )
