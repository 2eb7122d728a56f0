-- The nodes inside query documents.
use Rattle.std.specs.Prelude.{ℕ, List, option_map, map}
use Rattle.graphql_query.specs.Tree.{SelectionTree, field, spread, inline, SelectionSetTree, set, SelectionTrees}
use Rattle.graphql_query.specs.Tree.{VariableDefinitionTree, FragmentDefinitionTree, OperationTree, DefinitionTree}
use Rattle.graphql_query.specs.Tree.{short, operation, fragment, DocumentTree}
use Rattle.graphql_walk.specs.Nodes.{Branch, branch, Branches, none, leaf, only, ◌then◌, branches_of, optional, document}
use Rattle.graphql_walk.specs.Nodes.{executable, variable_definition, selection_set, selection, type_condition}
use Rattle.graphql_walk.specs.Values.{value_branch, type_branch, arguments_branches, directives_branches}
use Rattle.graphql_walk.specs.Nodes as nodes
use Rattle.graphql_query.specs.Tree as tree

-- ---- selections

abbrev pub condition_branch : List ℕ → Branch
condition_branch n = leaf (type_condition n)

-- the nodes inside a selection and inside a selection set
abbrev mutual
  pub inside_selection : SelectionTree → Branches
  inside_selection (field p alias n arguments ds s) =
      arguments_branches arguments then (directives_branches ds then selected_branches s)
  inside_selection (spread p n ds) = directives_branches ds
  inside_selection (inline p condition ds s) =
      optional (option_map condition_branch condition)
      then (directives_branches ds then only (branch (selection_set s) (inside_set s)))

  -- the selection set of a field; without selections there is none
  pub selected_branches : SelectionSetTree → Branches
  selected_branches (set o c tree.none) = none
  selected_branches (set o c (tree.more s ss)) =
      only (branch (selection_set (set o c (tree.more s ss))) (selections_branches (tree.more s ss)))

  pub inside_set : SelectionSetTree → Branches
  inside_set (set o c ss) = selections_branches ss

  pub selections_branches : SelectionTrees → Branches
  selections_branches tree.none = none
  selections_branches (tree.more s ss) =
      nodes.more (branch (selection s) (inside_selection s)) (selections_branches ss)

abbrev pub selection_branch : SelectionTree → Branch
selection_branch s = branch (selection s) (inside_selection s)

abbrev pub selection_set_branch : SelectionSetTree → Branch
selection_set_branch s = branch (selection_set s) (inside_set s)

-- ---- definitions

abbrev pub inside_variable_definition : VariableDefinitionTree → Branches
inside_variable_definition v =
    only (type_branch v.var_type)
    then (optional (option_map value_branch v.default_value) then directives_branches v.directives)

abbrev pub variable_definition_branch : VariableDefinitionTree → Branch
variable_definition_branch v = branch (variable_definition v) (inside_variable_definition v)

-- the nodes inside a definition
abbrev pub inside_definition : DefinitionTree → Branches
inside_definition (short s) = only (selection_set_branch s)
inside_definition (operation o) =
    branches_of (map variable_definition_branch o.variables)
    then (directives_branches o.directives then only (selection_set_branch o.selected))
inside_definition (fragment f) =
    only (condition_branch f.condition) then (directives_branches f.directives then only (selection_set_branch f.selected))

abbrev pub definition_branch : DefinitionTree → Branch
definition_branch d = branch (executable d) (inside_definition d)

abbrev pub document_branch : DocumentTree → Branch
document_branch d = branch (document d) (branches_of (map definition_branch d))
