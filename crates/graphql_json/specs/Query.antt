-- The nodes of query documents.
use Rattle.std.specs.Prelude.{ℕ, List, [], ◌++◌, Option, None, option_map, codes, map}
use Rattle.graphql_core.specs.{Place, DirectiveTree}
use Rattle.graphql_query.specs.Layout.{keyword}
use Rattle.graphql_query.specs.Tree.{SelectionTree, field, spread, inline, SelectionSetTree, set, SelectionTrees, none}
use Rattle.graphql_query.specs.Tree.{more, query_kind, VariableDefinitionTree, FragmentDefinitionTree, DefinitionTree}
use Rattle.graphql_query.specs.Tree.{short, operation, fragment, DocumentTree}
use Rattle.graphql_json.specs.Json.{Json, Elements, no_elements, element}
use Rattle.graphql_json.specs.Nodes.{Member, node, one, optional, each, document_node, located, spanned}
use Rattle.graphql_json.specs.Values.{name_json, named_json, value_json, named_type_json, type_json, arguments_json}
use Rattle.graphql_json.specs.Values.{directives_json}
use Rattle.graphql_json.specs.Json as json

-- ---- selections

-- a selection set, with the nodes of its selections
abbrev pub set_json_of : Place → Place → Elements → Json
set_json_of opening closing selections =
    node (codes "SelectionSet") (spanned opening closing ++ one (codes "selections") (json.array selections))

abbrev mutual
  pub selection_json : SelectionTree → Json
  selection_json (field p alias n arguments ds s) =
      node (codes "Field")
      (located p
      ++ (optional (codes "alias") (option_map name_json alias)
      ++ (one (codes "name") (name_json n) ++ (arguments_json arguments ++ (directives_json ds ++ selected_json s)))))
  selection_json (spread p n ds) =
      node (codes "FragmentSpread") (located p ++ (one (codes "name") (name_json n) ++ directives_json ds))
  selection_json (inline p condition ds s) =
      node (codes "InlineFragment")
      (located p
      ++ (optional (codes "typeCondition") (option_map named_type_json condition)
      ++ (directives_json ds ++ one (codes "selectionSet") (selection_set_json s))))

  -- the selection set of a field; without selections it is left out
  pub selected_json : SelectionSetTree → List Member
  selected_json (set o c none) = []
  selected_json (set o c (more s ss)) = one (codes "selectionSet") (set_json_of o c (selections_json (more s ss)))

  pub selection_set_json : SelectionSetTree → Json
  selection_set_json (set o c ss) = set_json_of o c (selections_json ss)

  pub selections_json : SelectionTrees → Elements
  selections_json none = no_elements
  selections_json (more s ss) = element (selection_json s) (selections_json ss)

-- ---- definitions

abbrev pub variable_definition_json : VariableDefinitionTree → Json
variable_definition_json v =
    node (codes "VariableDefinition")
    (located v.position
    ++ (one (codes "variable") (named_json (codes "Variable") v.name)
    ++ (one (codes "type") (type_json v.var_type)
    ++ (optional (codes "defaultValue") (option_map value_json v.default_value) ++ directives_json v.directives))))

-- an operation, from its keyword and its parts
abbrev pub operation_json_of : Place → List ℕ → Option (List ℕ) → List VariableDefinitionTree → List DirectiveTree
    → SelectionSetTree → Json
operation_json_of p word n vs ds s =
    node (codes "OperationDefinition")
    (located p
    ++ (one (codes "operation") (json.string word)
    ++ (optional (codes "name") (option_map name_json n)
    ++ (each (codes "variableDefinitions") (map variable_definition_json vs)
    ++ (directives_json ds ++ one (codes "selectionSet") (selection_set_json s))))))

abbrev pub first_place : SelectionSetTree → Place
first_place (set o c ss) = o

abbrev pub fragment_definition_json : FragmentDefinitionTree → Json
fragment_definition_json f =
    node (codes "FragmentDefinition")
    (located f.position
    ++ (one (codes "name") (name_json f.name)
    ++ (one (codes "typeCondition") (named_type_json f.condition)
    ++ (directives_json f.directives ++ one (codes "selectionSet") (selection_set_json f.selected)))))

-- a query in its short form has the node of a query with nothing between its keyword and its selections
abbrev pub definition_json : DefinitionTree → Json
definition_json (short s) = operation_json_of (first_place s) (keyword query_kind) None [] [] s
definition_json (operation o) = operation_json_of o.position (keyword o.kind) o.name o.variables o.directives o.selected
definition_json (fragment f) = fragment_definition_json f

abbrev pub document_json : DocumentTree → Json
document_json d = document_node (map definition_json d)
