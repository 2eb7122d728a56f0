-- How many fields a query document has.
use Rattle.std.specs.Prelude.{ℕ, ◌+◌, [], ◌∷◌}
use Rattle.graphql_query.specs.Tree.{SelectionTree, field, spread, inline, SelectionSetTree, set, SelectionTrees, none}
use Rattle.graphql_query.specs.Tree.{more, DefinitionTree, short, operation, fragment, DocumentTree}

-- each field, with the fields inside it
abbrev mutual
  pub fields_in_selection : SelectionTree → ℕ
  fields_in_selection (field p alias n arguments ds s) = 1 + fields_in_set s
  fields_in_selection (spread p n ds) = 0
  fields_in_selection (inline p condition ds s) = fields_in_set s

  pub fields_in_set : SelectionSetTree → ℕ
  fields_in_set (set o c ss) = fields_in_selections ss

  pub fields_in_selections : SelectionTrees → ℕ
  fields_in_selections none = 0
  fields_in_selections (more s ss) = fields_in_selection s + fields_in_selections ss

abbrev pub fields_in_definition : DefinitionTree → ℕ
fields_in_definition (short s) = fields_in_set s
fields_in_definition (operation o) = fields_in_set o.selected
fields_in_definition (fragment f) = fields_in_set f.selected

abbrev pub fields_in : DocumentTree → ℕ
fields_in [] = 0
fields_in (d ∷ ds) = fields_in_definition d + fields_in ds
