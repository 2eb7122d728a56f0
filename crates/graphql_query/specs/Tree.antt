-- The models of trees: names are bytes, and positions are kept.
use Rattle.std.specs.Prelude.{ℕ, List, [], ◌∷◌, Option, option_map, map}
use Rattle.graphql_core.specs.{Place, place_of, ValueTree, TypeTree, DirectiveTree, no_place, erase_all, value_view}
use Rattle.graphql_core.specs.{type_view, arguments_view, directives_view}
use Rattle.graphql_core.specs.declared.common.tree.Directive.{Directive}
use Rattle.graphql_query.specs.declared.tree.TypeCondition.{TypeCondition}
use Rattle.graphql_query.specs.declared.tree.TypeCondition.TheVariants.{On}
use Rattle.graphql_query.specs.declared.tree.VariableDefinition.{VariableDefinition}
use Rattle.graphql_query.specs.declared.tree.FragmentSpread.{FragmentSpread}
use Rattle.graphql_query.specs.declared.tree.Field.{Field, fold-Field}
use Rattle.graphql_query.specs.declared.tree.InlineFragment.{InlineFragment, fold-InlineFragment}
use Rattle.graphql_query.specs.declared.tree.SelectionSet.{SelectionSet, fold-SelectionSet}
use Rattle.graphql_query.specs.declared.tree.Selection.{Selection, fold-Selection}
use Rattle.graphql_query.specs.declared.tree.Selection.TheOpen.{Field-F, InlineFragment-F, SelectionSet-F, Selection-F}
use Rattle.graphql_query.specs.declared.tree.Query.{Query}
use Rattle.graphql_query.specs.declared.tree.Mutation.{Mutation}
use Rattle.graphql_query.specs.declared.tree.Subscription.{Subscription}
use Rattle.graphql_query.specs.declared.tree.FragmentDefinition.{FragmentDefinition}
use Rattle.graphql_query.specs.declared.tree.OperationDefinition.{OperationDefinition}
use Rattle.graphql_query.specs.declared.tree.Definition.{Definition}
use Rattle.graphql_query.specs.declared.tree.Document.{Document}
use Rattle.graphql_query.specs.declared.tree.OperationDefinition.TheVariants as operations
use Rattle.graphql_query.specs.declared.tree.Definition.TheVariants as definitions

-- ---- selections

-- arguments: each a name and a value
abbrev pub Arguments : Type 0
Arguments = List (List ℕ × ValueTree)

mutual
  -- a field, a fragment spread or an inline fragment
  pub data SelectionTree : Type 0 where
    field : (position : Place) (alias : Option (List ℕ)) (name : List ℕ) (arguments : Arguments)
        (directives : List DirectiveTree) (selected : SelectionSetTree)
        → SelectionTree
    spread : (position : Place) (name : List ℕ) (directives : List DirectiveTree) → SelectionTree
    inline : (position : Place) (condition : Option (List ℕ)) (directives : List DirectiveTree)
        (selected : SelectionSetTree)
        → SelectionTree

  -- a selection set: its span and its selections
  pub data SelectionSetTree : Type 0 where
    set : (opening closing : Place) (selections : SelectionTrees) → SelectionSetTree

  pub data SelectionTrees : Type 0 where
    none : SelectionTrees
    more : (first : SelectionTree) (others : SelectionTrees) → SelectionTrees

abbrev pub trees_of : List SelectionTree → SelectionTrees
trees_of [] = none
trees_of (t ∷ ts) = more t (trees_of ts)

-- a field without braces: its position twice, and no selections
abbrev pub no_selection_set : Place → SelectionSetTree
no_selection_set p = set p p none

-- ---- definitions

pub data OperationKind : Type 0 where
  query_kind : OperationKind
  mutation_kind : OperationKind
  subscription_kind : OperationKind

pub record VariableDefinitionTree : Type 0 where
  pub position : Place
  pub name : List ℕ
  pub var_type : TypeTree
  pub default_value : Option ValueTree
  pub directives : List DirectiveTree

-- what every operation has after its keyword
pub record OperationBodyTree : Type 0 where
  pub name : Option (List ℕ)
  pub variables : List VariableDefinitionTree
  pub directives : List DirectiveTree
  pub selected : SelectionSetTree

pub record OperationTree : Type 0 where
  pub kind : OperationKind
  pub position : Place
  pub name : Option (List ℕ)
  pub variables : List VariableDefinitionTree
  pub directives : List DirectiveTree
  pub selected : SelectionSetTree

-- an operation of this kind with this body; its position is that of the keyword
abbrev pub with_body : OperationKind → Place → OperationBodyTree → OperationTree
with_body kind position body = record {
  kind = kind;
  position = position;
  name = body.name;
  variables = body.variables;
  directives = body.directives;
  selected = body.selected;
}

pub record FragmentDefinitionTree : Type 0 where
  pub position : Place
  pub name : List ℕ
  pub condition : List ℕ
  pub directives : List DirectiveTree
  pub selected : SelectionSetTree

-- a query in its short form, an operation with its keyword, or a fragment
pub data DefinitionTree : Type 0 where
  short : (selected : SelectionSetTree) → DefinitionTree
  operation : (o : OperationTree) → DefinitionTree
  fragment : (f : FragmentDefinitionTree) → DefinitionTree

-- a document: its definitions in order
abbrev pub DocumentTree : Type 0
DocumentTree = List DefinitionTree

-- ---- models of trees

module _ {N T : Type 0} (bytes : T → List ℕ) where
  abbrev pub type_condition_view : TypeCondition N T → List ℕ
  type_condition_view (On n) = bytes n

  abbrev pub field_step : Field-F N T SelectionTree SelectionTree SelectionTree SelectionSetTree → SelectionTree
  field_step f =
      field (place_of f.position) (option_map bytes f.alias) (bytes f.name) (arguments_view bytes f.arguments.items)
      (directives_view bytes f.directives.items) f.selection_set

  abbrev pub fragment_spread_view : FragmentSpread N T → SelectionTree
  fragment_spread_view f =
      spread (place_of f.position) (bytes f.fragment_name) (directives_view bytes f.directives.items)

  abbrev pub inline_fragment_step : InlineFragment-F N T SelectionTree SelectionTree SelectionTree SelectionSetTree
      → SelectionTree
  inline_fragment_step f = inline (place_of f.position) (option_map type_condition_view f.type_condition)
      (directives_view bytes f.directives.items) f.selection_set

  abbrev pub selection_step : Selection-F N T SelectionTree SelectionTree SelectionTree SelectionSetTree → SelectionTree
  selection_step (Selection-F.Field f) = f
  selection_step (Selection-F.FragmentSpread f) = fragment_spread_view f
  selection_step (Selection-F.InlineFragment f) = f

  abbrev pub selection_set_step : SelectionSet-F N T SelectionTree SelectionTree SelectionTree SelectionSetTree
      → SelectionSetTree
  selection_set_step s = set (place_of s.span.0) (place_of s.span.1) (trees_of s.items.items)

  abbrev pub field_view : Field N T → SelectionTree
  field_view = fold-Field N T SelectionTree SelectionTree SelectionTree SelectionSetTree selection_step field_step
      inline_fragment_step selection_set_step

  abbrev pub inline_fragment_view : InlineFragment N T → SelectionTree
  inline_fragment_view =
      fold-InlineFragment N T SelectionTree SelectionTree SelectionTree SelectionSetTree selection_step field_step
      inline_fragment_step selection_set_step

  abbrev pub selection_view : Selection N T → SelectionTree
  selection_view = fold-Selection N T SelectionTree SelectionTree SelectionTree SelectionSetTree selection_step
      field_step inline_fragment_step selection_set_step

  abbrev pub selection_set_view : SelectionSet N T → SelectionSetTree
  selection_set_view = fold-SelectionSet N T SelectionTree SelectionTree SelectionTree SelectionSetTree selection_step
      field_step inline_fragment_step selection_set_step

  abbrev pub selections_view : List (Selection N T) → SelectionTrees
  selections_view ss = trees_of (map selection_view ss)

  abbrev pub variable_definition_view : VariableDefinition N T → VariableDefinitionTree
  variable_definition_view v = record {
    position = place_of v.position;
    name = bytes v.name;
    var_type = type_view bytes v.var_type;
    default_value = option_map (value_view bytes) v.default_value;
    directives = directives_view bytes v.directives.items;
  }

  abbrev pub variable_definitions_view : List (VariableDefinition N T) → List VariableDefinitionTree
  variable_definitions_view = map variable_definition_view

  abbrev pub body_view : Option T → List (VariableDefinition N T) → List (Directive N T)
      → SelectionSet N T → OperationBodyTree
  body_view name variables directives selected = record {
    name = option_map bytes name;
    variables = variable_definitions_view variables;
    directives = directives_view bytes directives;
    selected = selection_set_view selected;
  }

  abbrev pub query_view : Query N T → OperationTree
  query_view o = with_body query_kind (place_of o.position)
      (body_view o.name o.variable_definitions.items o.directives.items o.selection_set)

  abbrev pub mutation_view : Mutation N T → OperationTree
  mutation_view o = with_body mutation_kind (place_of o.position)
      (body_view o.name o.variable_definitions.items o.directives.items o.selection_set)

  abbrev pub subscription_view : Subscription N T → OperationTree
  subscription_view o = with_body subscription_kind (place_of o.position)
      (body_view o.name o.variable_definitions.items o.directives.items o.selection_set)

  abbrev pub fragment_definition_view : FragmentDefinition N T → FragmentDefinitionTree
  fragment_definition_view f = record {
    position = place_of f.position;
    name = bytes f.name;
    condition = type_condition_view f.type_condition;
    directives = directives_view bytes f.directives.items;
    selected = selection_set_view f.selection_set;
  }

  abbrev pub operation_definition_view : OperationDefinition N T → DefinitionTree
  operation_definition_view (operations.SelectionSet s) = short (selection_set_view s)
  operation_definition_view (operations.Query o) = operation (query_view o)
  operation_definition_view (operations.Mutation o) = operation (mutation_view o)
  operation_definition_view (operations.Subscription o) = operation (subscription_view o)

  abbrev pub definition_view : Definition N T → DefinitionTree
  definition_view (definitions.Operation o) = operation_definition_view o
  definition_view (definitions.Fragment f) = fragment (fragment_definition_view f)

  abbrev pub definitions_view : List (Definition N T) → DocumentTree
  definitions_view = map definition_view

  abbrev pub document_view : Document N T → DocumentTree
  document_view d = definitions_view d.definitions.items

-- ---- without positions

abbrev mutual
  pub erase_selection : SelectionTree → SelectionTree
  erase_selection (field p a n arguments ds s) = field no_place a n arguments (erase_all ds) (erase_selection_set s)
  erase_selection (spread p n ds) = spread no_place n (erase_all ds)
  erase_selection (inline p c ds s) = inline no_place c (erase_all ds) (erase_selection_set s)

  pub erase_selection_set : SelectionSetTree → SelectionSetTree
  erase_selection_set (set o c ss) = set no_place no_place (erase_selections ss)

  pub erase_selections : SelectionTrees → SelectionTrees
  erase_selections none = none
  erase_selections (more s ss) = more (erase_selection s) (erase_selections ss)

abbrev pub erase_variable_definition : VariableDefinitionTree → VariableDefinitionTree
erase_variable_definition v = record {
  position = no_place;
  name = v.name;
  var_type = v.var_type;
  default_value = v.default_value;
  directives = erase_all v.directives;
}

abbrev pub erase_operation : OperationTree → OperationTree
erase_operation o = record {
  kind = o.kind;
  position = no_place;
  name = o.name;
  variables = map erase_variable_definition o.variables;
  directives = erase_all o.directives;
  selected = erase_selection_set o.selected;
}

abbrev pub erase_fragment_definition : FragmentDefinitionTree → FragmentDefinitionTree
erase_fragment_definition f = record {
  position = no_place;
  name = f.name;
  condition = f.condition;
  directives = erase_all f.directives;
  selected = erase_selection_set f.selected;
}

abbrev pub erase_definition : DefinitionTree → DefinitionTree
erase_definition (short s) = short (erase_selection_set s)
erase_definition (operation o) = operation (erase_operation o)
erase_definition (fragment f) = fragment (erase_fragment_definition f)

-- every position and span becomes line 0, column 0
abbrev pub erase : DocumentTree → DocumentTree
erase d = map erase_definition d
