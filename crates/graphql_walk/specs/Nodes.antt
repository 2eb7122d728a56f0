-- The nodes of documents, and the events of a walk over them.
use Rattle.std.specs.Prelude.{ℕ, List, [], ◌∷◌, ◌++◌, Option, Some, None}
use Rattle.graphql_core.specs.{ValueTree, TypeTree, DirectiveTree, value_view, type_view, directive_view}
use Rattle.graphql_query.specs.Tree.{SelectionTree, SelectionSetTree, VariableDefinitionTree, DefinitionTree}
use Rattle.graphql_query.specs.Tree.{DocumentTree, fragment, document_view, operation_definition_view}
use Rattle.graphql_query.specs.Tree.{fragment_definition_view, variable_definition_view, selection_set_view}
use Rattle.graphql_query.specs.Tree.{field_view, fragment_spread_view, inline_fragment_view, type_condition_view}
use Rattle.graphql_walk.specs.declared.node.Node.{Node}
use Rattle.graphql_walk.specs.declared.node.Node.TheVariants as nodes

-- a node: a part of a document, by its kind
pub data NodeTree : Type 0 where
  document : DocumentTree → NodeTree
  -- an operation or a fragment
  executable : DefinitionTree → NodeTree
  variable_definition : VariableDefinitionTree → NodeTree
  selection_set : SelectionSetTree → NodeTree
  -- a field, a fragment spread or an inline fragment
  selection : SelectionTree → NodeTree
  type_condition : List ℕ → NodeTree
  argument : List ℕ → ValueTree → NodeTree
  directive : DirectiveTree → NodeTree
  type : TypeTree → NodeTree
  value : ValueTree → NodeTree
  object_field : List ℕ → ValueTree → NodeTree

-- the node that a visitor sees
module _ {N T : Type 0} (bytes : T → List ℕ) where
  abbrev pub node_view : Node N T → NodeTree
  node_view (nodes.Document d) = document (document_view bytes d.now)
  node_view (nodes.Operation o) = executable (operation_definition_view bytes o.now)
  node_view (nodes.Fragment f) = executable (fragment (fragment_definition_view bytes f.now))
  node_view (nodes.VariableDefinition v) = variable_definition (variable_definition_view bytes v.now)
  node_view (nodes.SelectionSet s) = selection_set (selection_set_view bytes s.now)
  node_view (nodes.Field f) = selection (field_view bytes f.now)
  node_view (nodes.FragmentSpread s) = selection (fragment_spread_view bytes s.now)
  node_view (nodes.InlineFragment f) = selection (inline_fragment_view bytes f.now)
  node_view (nodes.TypeCondition c) = type_condition (type_condition_view bytes c.now)
  node_view (nodes.Argument n v) = argument (bytes n.now) (value_view bytes v.now)
  node_view (nodes.Directive d) = directive (directive_view bytes d.now)
  node_view (nodes.Type t) = type (type_view bytes t.now)
  node_view (nodes.Value v) = value (value_view bytes v.now)
  node_view (nodes.ObjectField n v) = object_field (bytes n.now) (value_view bytes v.now)

-- a node with the nodes inside it, in order
mutual
  pub data Branch : Type 0 where
    branch : (node : NodeTree) (inside : Branches) → Branch

  pub data Branches : Type 0 where
    none : Branches
    more : (first : Branch) (others : Branches) → Branches

abbrev pub leaf : NodeTree → Branch
leaf n = branch n none

abbrev pub only : Branch → Branches
only b = more b none

infixr 50 ◌then◌
abbrev pub ◌then◌ : Branches → Branches → Branches
none then cs = cs
(more b bs) then cs = more b (bs then cs)

abbrev pub branches_of : List Branch → Branches
branches_of [] = none
branches_of (b ∷ bs) = more b (branches_of bs)

-- a node that can be absent
abbrev pub optional : Option Branch → Branches
optional None = none
optional (Some b) = only b

-- ---- events

pub data Event : Type 0 where
  enter : NodeTree → Event
  leave : NodeTree → Event

-- a node is entered, then the nodes inside it are walked, then it is left
abbrev mutual
  pub events : Branch → List Event
  events (branch n bs) = enter n ∷ (events_of bs ++ (leave n ∷ []))

  pub events_of : Branches → List Event
  events_of none = []
  events_of (more b bs) = events b ++ events_of bs
