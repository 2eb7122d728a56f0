-- The fields that are counted by a walk over a document.
use Rattle.std.proofs.Common.{◌≡◌, ◌++◌, ◌≤◌, ◌+◌, ◌-◌, ◌^◌, ℕ, [], ◌∷◌, List, Option, Some, None, option_map, map, cond, min, Result, Ok}
use Rattle.std.proofs.Common.{refl, ap, arith}
use Rattle.graphql_core.specs.{ValueTree, TypeTree, DirectiveTree}
use Rattle.graphql_core.specs.values.Values.{variable, int, float, string, boolean, null, enum, list, object, ValueItems, no_items, item, ValueMembers}
use Rattle.graphql_core.specs.values.Values.{no_members, member, named, list_of, non_null}
use Rattle.graphql_query.specs.Tree.{SelectionTree, field, spread, inline, SelectionSetTree, set, SelectionTrees, VariableDefinitionTree, DefinitionTree}
use Rattle.graphql_query.specs.Tree.{short, operation, fragment, DocumentTree}
use Rattle.graphql_walk.specs.{Branch, branch, Branches, none, more, only, ◌then◌, branches_of, optional, Event, enter, leave, events, events_of}
use Rattle.graphql_walk.specs.{inside_value, items_branches, fields_branches, value_branch, inside_type, arguments_branches}
use Rattle.graphql_walk.specs.{directives_branches, condition_branch, selected_branches, inside_set, selections_branches}
use Rattle.graphql_walk.specs.{selection_branch, variable_definition_branch, definition_branch, document_branch, Calls}
use Rattle.graphql_walk.specs.{fields_in_selection, fields_in_set, fields_in_selections, fields_in_definition, fields_in}
use Rattle.graphql_walk.specs.{node_view, is_field, is_field_selection, refers_to_field, counted, counted_in, IsCounted}
use Rattle.graphql_walk.specs.declared.node.Node.{Node}
use Rattle.graphql_walk.specs.declared.node.Node.TheVariants as seen
use Rattle.graphql_walk.proofs.Calls.{walk_calls}
use Rattle.graphql_query.proofs.layouts.LayoutTexts.{field_parts, inline_fragment_parts}
use Rattle.graphql_walk.specs.{Walks, Ending}
use Rattle.graphql_walk.specs.declared.count.FieldCounter.{FieldCounter}
use Rattle.graphql_walk.specs.declared.visitor.Flow.{Flow}
use Rattle.graphql_walk.specs.declared.visitor.Flow.TheVariants.{Continue}
use Rattle.graphql_query.specs.Tree as tree
use Rattle.graphql_walk.specs.Nodes as nodes

-- ---- how many fields are in nodes

abbrev mutual
  pub weight : Branch → ℕ
  weight (branch n bs) = cond (is_field n) 1 0 + weights bs

  pub weights : Branches → ℕ
  weights none = 0
  weights (more b bs) = weight b + weights bs

counted_append : (es ds : List Event) → counted_in (es ++ ds) ≡ counted_in es + counted_in ds
counted_append [] ds = omega arith
counted_append (e ∷ es) ds = omega (arith, counted_append es ds)

mutual
  pub counted_events : (b : Branch) → counted_in (events b) ≡ weight b
  counted_events (branch n bs) = omega (arith, counted_append (events_of bs) (leave n ∷ []), counted_events_of bs)

  counted_events_of : (bs : Branches) → counted_in (events_of bs) ≡ weights bs
  counted_events_of none = refl
  counted_events_of (more b bs) = omega (arith, counted_append (events b) (events_of bs), counted_events b, counted_events_of bs)

weights_then : (bs cs : Branches) → weights (bs then cs) ≡ weights bs + weights cs
weights_then none cs = omega arith
weights_then (more b bs) cs = omega (arith, weights_then bs cs)

-- ---- nodes without fields

mutual
  value_zero : (v : ValueTree) → weights (inside_value v) ≡ 0
  value_zero (list vs) = items_zero vs
  value_zero (object ms) = fields_zero ms
  value_zero (variable n) = refl
  value_zero (int i) = refl
  value_zero (float literal) = refl
  value_zero (string s) = refl
  value_zero (boolean b) = refl
  value_zero null = refl
  value_zero (enum n) = refl

  items_zero : (vs : ValueItems) → weights (items_branches vs) ≡ 0
  items_zero no_items = refl
  items_zero (item v vs) = omega (arith, value_zero v, items_zero vs)

  fields_zero : (ms : ValueMembers) → weights (fields_branches ms) ≡ 0
  fields_zero no_members = refl
  fields_zero (member n v ms) = omega (arith, value_zero v, fields_zero ms)

type_zero : (t : TypeTree) → weights (inside_type t) ≡ 0
type_zero (named n) = refl
type_zero (list_of t) = omega (arith, type_zero t)
type_zero (non_null t) = omega (arith, type_zero t)

arguments_zero : (xs : List (List ℕ × ValueTree)) → weights (arguments_branches xs) ≡ 0
arguments_zero [] = refl
arguments_zero (a ∷ xs) = omega (arith, value_zero a.1, arguments_zero xs)

directives_zero : (ds : List DirectiveTree) → weights (directives_branches ds) ≡ 0
directives_zero [] = refl
directives_zero (d ∷ ds) = omega (arith, arguments_zero d.arguments, directives_zero ds)

condition_zero : (c : Option (List ℕ)) → weights (optional (option_map condition_branch c)) ≡ 0
condition_zero None = refl
condition_zero (Some n) = refl

default_zero : (d : Option ValueTree) → weights (optional (option_map value_branch d)) ≡ 0
default_zero None = refl
default_zero (Some v) = omega (arith, value_zero v)

variables_zero : (vs : List VariableDefinitionTree) → weights (branches_of (map variable_definition_branch vs)) ≡ 0
variables_zero [] = refl
variables_zero (v ∷ vs) =
    let defaults = optional (option_map value_branch v.default_value) in
    let parts = weights_then defaults (directives_branches v.directives) in
    omega (arith, parts, type_zero v.var_type, default_zero v.default_value, directives_zero v.directives, variables_zero vs)

-- ---- selections

mutual
  selection_fields : (s : SelectionTree) → weight (selection_branch s) ≡ fields_in_selection s
  selection_fields (field p alias n arguments ds s) =
      omega (
        arith,
        weights_then (arguments_branches arguments) (directives_branches ds then selected_branches s),
        weights_then (directives_branches ds) (selected_branches s),
        arguments_zero arguments,
        directives_zero ds,
        selected_fields s,
      )
  selection_fields (spread p n ds) = omega (arith, directives_zero ds)
  selection_fields (inline p condition ds s) =
      let inner = only (branch (nodes.selection_set s) (inside_set s)) in
      omega (
        arith,
        weights_then (optional (option_map condition_branch condition)) (directives_branches ds then inner),
        weights_then (directives_branches ds) inner,
        condition_zero condition,
        directives_zero ds,
        set_fields s,
      )

  selected_fields : (s : SelectionSetTree) → weights (selected_branches s) ≡ fields_in_set s
  selected_fields (set o c tree.none) = refl
  selected_fields (set o c (tree.more s ss)) = omega (arith, selection_fields s, selections_fields ss)

  pub set_fields : (s : SelectionSetTree) → weights (inside_set s) ≡ fields_in_set s
  set_fields (set o c ss) = selections_fields ss

  selections_fields : (ss : SelectionTrees) → weights (selections_branches ss) ≡ fields_in_selections ss
  selections_fields tree.none = refl
  selections_fields (tree.more s ss) = omega (arith, selection_fields s, selections_fields ss)

-- ---- documents

definition_fields : (d : DefinitionTree) → weight (definition_branch d) ≡ fields_in_definition d
definition_fields (short s) = omega (arith, set_fields s)
definition_fields (operation o) =
    let inner = only (branch (nodes.selection_set o.selected) (inside_set o.selected)) in
    omega (
      arith,
      weights_then (branches_of (map variable_definition_branch o.variables)) (directives_branches o.directives then inner),
      weights_then (directives_branches o.directives) inner,
      variables_zero o.variables,
      directives_zero o.directives,
      set_fields o.selected,
    )
definition_fields (fragment f) =
    let inner = only (branch (nodes.selection_set f.selected) (inside_set f.selected)) in
    omega (arith, weights_then (directives_branches f.directives) inner, directives_zero f.directives, set_fields f.selected)

definitions_fields : (d : DocumentTree) → weights (branches_of (map definition_branch d)) ≡ fields_in d
definitions_fields [] = refl
definitions_fields (x ∷ d) = omega (arith, definition_fields x, definitions_fields d)

pub document_fields : (d : DocumentTree) → weight (document_branch d) ≡ fields_in d
document_fields d = omega (arith, definitions_fields d)

-- ---- calls that count

module _ {N T : Type 0} (bytes : T → List ℕ) where
  pub node_is_field : (n : Node N T) → is_field (node_view bytes n) ≡ refers_to_field n
  node_is_field (seen.Field f) = ap is_field_selection (field_parts bytes f.now)
  node_is_field (seen.InlineFragment f) = ap is_field_selection (inline_fragment_parts bytes f.now)
  node_is_field (seen.FragmentSpread s) = refl
  node_is_field (seen.Document d) = refl
  node_is_field (seen.Operation o) = refl
  node_is_field (seen.Fragment f) = refl
  node_is_field (seen.VariableDefinition v) = refl
  node_is_field (seen.SelectionSet s) = refl
  node_is_field (seen.TypeCondition c) = refl
  node_is_field (seen.Argument n v) = refl
  node_is_field (seen.Directive d) = refl
  node_is_field (seen.Type t) = refl
  node_is_field (seen.Value v) = refl
  node_is_field (seen.ObjectField n v) = refl

one_event : (c : ℕ) (e : Event) (d : ℕ) → c ≤ 2 ^ 64 - 1 → IsCounted c e d → d ≡ min (c + counted e) (2 ^ 64 - 1)
one_event c (enter n) d h p = p
one_event c (leave n) d h p = omega (arith, p, h)

module _ {S E : Type 0} (visited : S → Event → Result Flow E → S → Type 0) (count : S → ℕ)
    (step : (s : S) (e : Event) (a : Result Flow E) (t : S) → visited s e a t → IsCounted (count s) e (count t)) where
  pub counts : (es : List Event) (s t : S) → count s ≤ 2 ^ 64 - 1 → Calls visited es s t → count t ≡ min (count s + counted_in es) (2 ^ 64 - 1)
  counts [] s t h p = omega (arith, ap count p, h)
  counts (e ∷ es) s t h (m, v, p) =
      let one = one_event (count s) e (count m) h (step s e (Ok Continue) m v) in
      omega (arith, one, counts es m t (omega (arith, one)) p)

-- ---- the visitor that counts

module _ {E : Type 0} where
  abbrev pub CountsFields : FieldCounter → Event → Result Flow E → FieldCounter → Type 0
  CountsFields s e r t = (r ≡ Ok Continue) × IsCounted s.count e t.count

  pub counted_walk : (b : Branch) (s t : FieldCounter) (r : Ending (Unit {0}) E) → Walks CountsFields b s r t → s.count ≡ 0
      → t.count ≡ min (weight b) (2 ^ 64 - 1)
  counted_walk b s t r w z =
      let calls = walk_calls CountsFields (λ s e a t v. v.0) b s t r w in
      let n = counts CountsFields (λ s. s.count) (λ s e a t v. v.1) (events b) s t (omega (arith, z)) calls.1 in
      omega (arith, n, z, counted_events b)
