-- Layouts do not depend on positions.
use Rattle.std.proofs.Common.{◌≡◌, ◌++◌, ◌+◌, ap, ap₂, refl, codes, ℕ, List, map}
use Rattle.graphql_core.specs.{text_of, StyleOptions, gap, in_braces}
use Rattle.graphql_core.proofs.{directives_alike, separated_alike, in_parentheses_alike}
use Rattle.graphql_query.specs.{spread, more, SelectionTree, SelectionSetTree, SelectionTrees, VariableDefinitionTree, OperationTree, FragmentDefinitionTree}
use Rattle.graphql_query.specs.{DefinitionTree, short, operation, fragment, DocumentTree, erase_selection, erase_selection_set, erase_selections}
use Rattle.graphql_query.specs.{erase_variable_definition, erase_operation, erase_fragment_definition, erase_definition, erase, field, inline, set, none}
use Rattle.graphql_query.specs.{selection_layout, selected_layout, selection_set_layout, selections_layout, variable_definition_layout}
use Rattle.graphql_query.specs.{variable_definitions_layout, operation_layout, fragment_definition_layout, definition_layout, layout}

mutual
  selection_alike : (style : StyleOptions) (margin : ℕ) (s : SelectionTree)
      → selection_layout style margin (erase_selection s) ≡ selection_layout style margin s
  selection_alike style margin (field p alias n arguments ds s) = rw (directives_alike style margin ds, selected_alike style margin s) refl
  selection_alike style margin (spread p n ds) = rw (directives_alike style margin ds) refl
  selection_alike style margin (inline p condition ds s) = rw (directives_alike style margin ds, selection_set_alike style margin s) refl

  selected_alike : (style : StyleOptions) (margin : ℕ) (s : SelectionSetTree)
      → selected_layout style margin (erase_selection_set s) ≡ selected_layout style margin s
  selected_alike style margin (set o c none) = refl
  selected_alike style margin (set o c (more s ss)) = ap (λ r. gap (codes " ") ++ in_braces margin r)
      (selections_alike style (margin + style.indent) (more s ss))

  selection_set_alike : (style : StyleOptions) (margin : ℕ) (s : SelectionSetTree)
      → selection_set_layout style margin (erase_selection_set s) ≡ selection_set_layout style margin s
  selection_set_alike style margin (set o c ss) = ap (in_braces margin) (selections_alike style (margin + style.indent) ss)

  selections_alike : (style : StyleOptions) (margin : ℕ) (ss : SelectionTrees)
      → selections_layout style margin (erase_selections ss) ≡ selections_layout style margin ss
  selections_alike style margin none = refl
  selections_alike style margin (more s ss) = ap₂ (λ a b. a ++ b) (selection_alike style margin s) (selections_alike style margin ss)

variable_definition_alike : (style : StyleOptions) (v : VariableDefinitionTree)
    → variable_definition_layout style (erase_variable_definition v) ≡ variable_definition_layout style v
variable_definition_alike style v = rw (directives_alike style 0 v.directives) refl

variable_definitions_alike : (style : StyleOptions) (vs : List VariableDefinitionTree)
    → variable_definitions_layout style (map erase_variable_definition vs) ≡ variable_definitions_layout style vs
variable_definitions_alike style = in_parentheses_alike erase_variable_definition (variable_definition_layout style) (variable_definition_alike style)

operation_alike : (style : StyleOptions) (o : OperationTree) → operation_layout style (erase_operation o) ≡ operation_layout style o
operation_alike style o = rw (variable_definitions_alike style o.variables, directives_alike style 0 o.directives, selection_set_alike style 0 o.selected) refl

fragment_definition_alike : (style : StyleOptions) (f : FragmentDefinitionTree)
    → fragment_definition_layout style (erase_fragment_definition f) ≡ fragment_definition_layout style f
fragment_definition_alike style f = rw (directives_alike style 0 f.directives, selection_set_alike style 0 f.selected) refl

definition_alike : (style : StyleOptions) (d : DefinitionTree) → definition_layout style (erase_definition d) ≡ definition_layout style d
definition_alike style (short s) = selection_set_alike style 0 s
definition_alike style (operation o) = operation_alike style o
definition_alike style (fragment f) = fragment_definition_alike style f

pub layout_alike : (style : StyleOptions) (d : DocumentTree) → layout style (erase d) ≡ layout style d
layout_alike style d = ap text_of (separated_alike erase_definition (definition_layout style) (definition_alike style) d)
