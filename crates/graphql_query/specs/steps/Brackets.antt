-- Brackets of the parts of a query document.
use Rattle.std.specs.Prelude.{ℕ, List}
use Rattle.graphql_core.specs.{in_brackets}
use Rattle.graphql_query.specs.Tree.{SelectionTree, SelectionSetTree, SelectionTrees, VariableDefinitionTree}
use Rattle.graphql_query.specs.TreeDepth.{selection_depth, selected_depth, selection_set_depth, selections_depth}
use Rattle.graphql_query.specs.TreeDepth.{variable_definition_depth, variable_definitions_depth}

abbrev pub selection_brackets : SelectionTree → ℕ
selection_brackets = selection_depth in_brackets

abbrev pub selected_brackets : SelectionSetTree → ℕ
selected_brackets = selected_depth in_brackets

abbrev pub selection_set_brackets : SelectionSetTree → ℕ
selection_set_brackets = selection_set_depth in_brackets

abbrev pub selections_brackets : SelectionTrees → ℕ
selections_brackets = selections_depth in_brackets

abbrev pub variable_definition_brackets : VariableDefinitionTree → ℕ
variable_definition_brackets = variable_definition_depth in_brackets

abbrev pub variable_definitions_brackets : List VariableDefinitionTree → ℕ
variable_definitions_brackets = variable_definitions_depth in_brackets
