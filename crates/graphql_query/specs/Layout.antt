-- The layout of a document in a style. A line begins with a margin, a number of spaces.
use Rattle.std.specs.Prelude.{ℕ, ◌+◌, List, [], ◌++◌, Option, Some, None, codes}
use Rattle.graphql_core.specs.{name_part, punctuator_part, text_of, StyleOptions, spaces, Part, gap, type_layout}
use Rattle.graphql_core.specs.{arguments_layout, directives_layout, in_levels, in_braces, most, default_layout}
use Rattle.graphql_core.specs.{in_parentheses, separated}
use Rattle.graphql_query.specs.Tree.{spread, more, SelectionTree, field, inline, SelectionSetTree, set, SelectionTrees}
use Rattle.graphql_query.specs.Tree.{none, OperationKind, query_kind, mutation_kind, subscription_kind}
use Rattle.graphql_query.specs.Tree.{VariableDefinitionTree, OperationTree, FragmentDefinitionTree, DefinitionTree}
use Rattle.graphql_query.specs.Tree.{short, operation, fragment, DocumentTree}
use Rattle.graphql_query.specs.TreeDepth.{selection_depth, selected_depth, selection_set_depth, selections_depth}
use Rattle.graphql_query.specs.TreeDepth.{variable_definition_depth, variable_definitions_depth, operation_depth}
use Rattle.graphql_query.specs.TreeDepth.{fragment_definition_depth, definition_depth}
use Rattle.graphql_core.specs.layouts.ValueLayout as values

-- ---- selections

-- an alias with its colon, before a name
abbrev pub alias_layout : Option (List ℕ) → List Part
alias_layout None = []
alias_layout (Some a) = name_part a ++ (punctuator_part (codes ":") ++ gap (codes " "))

-- a type condition
abbrev pub type_condition_layout : List ℕ → List Part
type_condition_layout c = name_part (codes "on") ++ (gap (codes " ") ++ name_part c)

-- the optional type condition of an inline fragment
abbrev pub on_layout : Option (List ℕ) → List Part
on_layout None = []
on_layout (Some c) = gap (codes " ") ++ type_condition_layout c

abbrev mutual
  -- each selection is on separate lines
  pub selection_layout : StyleOptions → ℕ → SelectionTree → List Part
  selection_layout style margin (field p alias n arguments ds s) =
      gap (spaces margin) ++
      (alias_layout alias ++ (name_part n ++ (arguments_layout style margin arguments
      ++ (directives_layout style margin ds ++ selected_layout style margin s))))
  selection_layout style margin (spread p n ds) =
      gap (spaces margin)
      ++ (punctuator_part (codes "...") ++ (name_part n ++ (directives_layout style margin ds ++ gap (codes "\n"))))
  selection_layout style margin (inline p condition ds s) =
      gap (spaces margin) ++
      (punctuator_part (codes "...") ++ (on_layout condition
      ++ (directives_layout style margin ds ++ (gap (codes " ") ++ selection_set_layout style margin s))))

  -- the selection set of a field; without selections it has no braces
  pub selected_layout : StyleOptions → ℕ → SelectionSetTree → List Part
  selected_layout style margin (set o c none) = gap (codes "\n")
  selected_layout style margin (set o c (more s ss)) =
      gap (codes " ") ++ in_braces margin (selections_layout style (margin + style.indent) (more s ss))

  -- a selection set in braces, its selections one level deeper
  pub selection_set_layout : StyleOptions → ℕ → SelectionSetTree → List Part
  selection_set_layout style margin (set o c ss) = in_braces margin (selections_layout style (margin + style.indent) ss)

  pub selections_layout : StyleOptions → ℕ → SelectionTrees → List Part
  selections_layout style margin none = []
  selections_layout style margin (more s ss) = selection_layout style margin s ++ selections_layout style margin ss

-- ---- definitions, which have no margin

abbrev pub keyword : OperationKind → List ℕ
keyword query_kind = codes "query"
keyword mutation_kind = codes "mutation"
keyword subscription_kind = codes "subscription"

abbrev pub operation_name_layout : Option (List ℕ) → List Part
operation_name_layout None = []
operation_name_layout (Some n) = gap (codes " ") ++ name_part n

abbrev pub variable_definition_layout : StyleOptions → VariableDefinitionTree → List Part
variable_definition_layout style v = punctuator_part (codes "$")
    ++ (name_part v.name ++ (punctuator_part (codes ":") ++ (gap (codes " ")
    ++ (type_layout v.var_type ++ (default_layout style 0 v.default_value ++ directives_layout style 0 v.directives)))))

abbrev pub variable_definitions_layout : StyleOptions → List VariableDefinitionTree → List Part
variable_definitions_layout style = in_parentheses (variable_definition_layout style)

abbrev pub operation_layout : StyleOptions → OperationTree → List Part
operation_layout style o = name_part (keyword o.kind)
    ++ (operation_name_layout o.name
    ++ (variable_definitions_layout style o.variables
    ++ (directives_layout style 0 o.directives ++ (gap (codes " ") ++ selection_set_layout style 0 o.selected))))

abbrev pub fragment_definition_layout : StyleOptions → FragmentDefinitionTree → List Part
fragment_definition_layout style f =
    name_part (codes "fragment")
    ++ (gap (codes " ") ++ (name_part f.name ++ (gap (codes " ") ++ (type_condition_layout f.condition
    ++ (directives_layout style 0 f.directives ++ (gap (codes " ") ++ selection_set_layout style 0 f.selected))))))

abbrev pub definition_layout : StyleOptions → DefinitionTree → List Part
definition_layout style (short s) = selection_set_layout style 0 s
definition_layout style (operation o) = operation_layout style o
definition_layout style (fragment f) = fragment_definition_layout style f

-- the definitions, with an empty line between two
abbrev pub document_layout : StyleOptions → DocumentTree → List Part
document_layout style = separated (definition_layout style)

-- the formatted document
abbrev pub layout : StyleOptions → DocumentTree → List ℕ
layout style d = text_of (document_layout style d)

-- ---- levels that are open at once

abbrev pub selection_set_levels : StyleOptions → SelectionSetTree → ℕ
selection_set_levels style = selection_set_depth (in_levels style)

abbrev pub variable_definition_levels : StyleOptions → VariableDefinitionTree → ℕ
variable_definition_levels style = variable_definition_depth (in_levels style)

abbrev pub selection_levels : StyleOptions → SelectionTree → ℕ
selection_levels style = selection_depth (in_levels style)

abbrev pub selected_levels : StyleOptions → SelectionSetTree → ℕ
selected_levels style = selected_depth (in_levels style)

abbrev pub selections_levels : StyleOptions → SelectionTrees → ℕ
selections_levels style = selections_depth (in_levels style)

abbrev pub variable_definitions_levels : StyleOptions → List VariableDefinitionTree → ℕ
variable_definitions_levels style = variable_definitions_depth (in_levels style)

abbrev pub operation_levels : StyleOptions → OperationTree → ℕ
operation_levels style = operation_depth (in_levels style)

abbrev pub fragment_definition_levels : StyleOptions → FragmentDefinitionTree → ℕ
fragment_definition_levels style = fragment_definition_depth (in_levels style)

abbrev pub definition_levels : StyleOptions → DefinitionTree → ℕ
definition_levels style = definition_depth (in_levels style)

abbrev pub levels : StyleOptions → DocumentTree → ℕ
levels style = most (definition_levels style)

-- the levels open at once take more than `u32::MAX` spaces, even if no line is in the deepest of them
abbrev pub IsTooWide : StyleOptions → DocumentTree → Type 0
IsTooWide style d = values.IsTooWide style (levels style d)
