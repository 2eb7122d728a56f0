-- How deep selections and definitions nest, counted with weights.
use Rattle.std.specs.Prelude.{ℕ, ◌+◌, max, List}
use Rattle.graphql_core.specs.{Weights, most_around, default_depth, arguments_depth, directives_depth}
use Rattle.graphql_query.specs.Tree.{spread, more, SelectionTree, field, inline, SelectionSetTree, set, SelectionTrees}
use Rattle.graphql_query.specs.Tree.{none, VariableDefinitionTree, OperationTree, FragmentDefinitionTree}
use Rattle.graphql_query.specs.Tree.{DefinitionTree, short, operation, fragment}

-- ---- selections

abbrev mutual
  pub selection_depth : Weights → SelectionTree → ℕ
  selection_depth w (field p alias n arguments ds s) =
      max (arguments_depth w arguments) (max (directives_depth w ds) (selected_depth w s))
  selection_depth w (spread p n ds) = directives_depth w ds
  selection_depth w (inline p condition ds s) = max (directives_depth w ds) (selection_set_depth w s)

  -- a field without selections has no braces
  pub selected_depth : Weights → SelectionSetTree → ℕ
  selected_depth w (set o c none) = 0
  selected_depth w (set o c (more s ss)) = selections_depth w (more s ss) + 1

  -- braces add one level
  pub selection_set_depth : Weights → SelectionSetTree → ℕ
  selection_set_depth w (set o c ss) = selections_depth w ss + 1

  pub selections_depth : Weights → SelectionTrees → ℕ
  selections_depth w none = 0
  selections_depth w (more s ss) = max (selection_depth w s) (selections_depth w ss)

-- ---- definitions

abbrev pub variable_definition_depth : Weights → VariableDefinitionTree → ℕ
variable_definition_depth w v =
    max (w.of_type v.var_type) (max (default_depth w v.default_value) (directives_depth w v.directives))

abbrev pub variable_definitions_depth : Weights → List VariableDefinitionTree → ℕ
variable_definitions_depth w = most_around w.around_definitions (variable_definition_depth w)

abbrev pub operation_depth : Weights → OperationTree → ℕ
operation_depth w o =
    max (variable_definitions_depth w o.variables)
    (max (directives_depth w o.directives) (selection_set_depth w o.selected))

abbrev pub fragment_definition_depth : Weights → FragmentDefinitionTree → ℕ
fragment_definition_depth w f = max (directives_depth w f.directives) (selection_set_depth w f.selected)

abbrev pub definition_depth : Weights → DefinitionTree → ℕ
definition_depth w (short s) = selection_set_depth w s
definition_depth w (operation o) = operation_depth w o
definition_depth w (fragment f) = fragment_definition_depth w f
