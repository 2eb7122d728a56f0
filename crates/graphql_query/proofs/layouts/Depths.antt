-- The bracket depth of a document is the bracket depth of its layout.
use Rattle.std.proofs.Common.{ℕ, ◌+◌, List, Option, Some, None, refl}
use Rattle.graphql_core.proofs.{Rises, none_rise, flat_rise, gap_rises, level_rises, both_rise, type_rises, arguments_rise, directives_rise, braces_rise}
use Rattle.graphql_core.proofs.{line_end_rises, default_rises, separated_rise, in_parentheses_rise}
use Rattle.graphql_core.specs.{StyleOptions, most}
use Rattle.graphql_query.specs.{spread, more, SelectionTree, SelectionSetTree, SelectionTrees, VariableDefinitionTree, DefinitionTree, short, operation}
use Rattle.graphql_query.specs.{fragment, DocumentTree, field, inline, set, none, selection_brackets, selected_brackets, selection_set_brackets}
use Rattle.graphql_query.specs.{selections_brackets, variable_definition_brackets, variable_definitions_brackets, definition_brackets, alias_layout}
use Rattle.graphql_query.specs.{type_condition_layout, on_layout, selection_layout, selected_layout, selection_set_layout, selections_layout}
use Rattle.graphql_query.specs.{operation_name_layout, variable_definition_layout, variable_definitions_layout, definition_layout, document_layout}

-- ---- selections

alias_rises : (alias : Option (List ℕ)) → Rises 0 (alias_layout alias)
alias_rises None = none_rise
alias_rises (Some a) = level_rises refl (level_rises refl (gap_rises _ none_rise))

type_condition_rises : (c : List ℕ) → Rises 0 (type_condition_layout c)
type_condition_rises c = level_rises refl (gap_rises _ (level_rises refl none_rise))

on_rises : (condition : Option (List ℕ)) → Rises 0 (on_layout condition)
on_rises None = none_rise
on_rises (Some c) = gap_rises _ (type_condition_rises c)

mutual
  pub selection_rises : (style : StyleOptions) (margin : ℕ) (s : SelectionTree) → Rises (selection_brackets s) (selection_layout style margin s)
  selection_rises style margin (field p alias n arguments ds s) =
      gap_rises _ (flat_rise (alias_rises alias)
      (level_rises refl (both_rise (arguments_rise style margin arguments) (both_rise (directives_rise style margin ds) (selected_rises style margin s)))))
  selection_rises style margin (spread p n ds) = gap_rises _ (level_rises refl (level_rises refl (line_end_rises _ (directives_rise style margin ds))))
  selection_rises style margin (inline p condition ds s) =
      gap_rises _ (level_rises refl
      (flat_rise (on_rises condition) (both_rise (directives_rise style margin ds) (gap_rises _ (selection_set_rises style margin s)))))

  pub selected_rises : (style : StyleOptions) (margin : ℕ) (s : SelectionSetTree) → Rises (selected_brackets s) (selected_layout style margin s)
  selected_rises style margin (set o c none) = gap_rises _ none_rise
  selected_rises style margin (set o c (more s ss)) = gap_rises _ (braces_rise margin (selections_rise style (margin + style.indent) (more s ss)))

  pub selection_set_rises : (style : StyleOptions) (margin : ℕ) (s : SelectionSetTree) → Rises (selection_set_brackets s) (selection_set_layout style margin s)
  selection_set_rises style margin (set o c ss) = braces_rise margin (selections_rise style (margin + style.indent) ss)

  selections_rise : (style : StyleOptions) (margin : ℕ) (ss : SelectionTrees) → Rises (selections_brackets ss) (selections_layout style margin ss)
  selections_rise style margin none = none_rise
  selections_rise style margin (more s ss) = both_rise (selection_rises style margin s) (selections_rise style margin ss)

-- ---- definitions

variable_definition_rises : (style : StyleOptions) (v : VariableDefinitionTree) → Rises (variable_definition_brackets v) (variable_definition_layout style v)
variable_definition_rises style v =
    level_rises refl (level_rises refl (level_rises refl (gap_rises _ (both_rise (type_rises v.var_type)
    (both_rise (default_rises style 0 v.default_value) (directives_rise style 0 v.directives))))))

variable_definitions_rise : (style : StyleOptions) (vs : List VariableDefinitionTree)
    → Rises (variable_definitions_brackets vs) (variable_definitions_layout style vs)
variable_definitions_rise style = in_parentheses_rise (variable_definition_layout style) variable_definition_brackets (variable_definition_rises style)

name_rises : (n : Option (List ℕ)) → Rises 0 (operation_name_layout n)
name_rises None = none_rise
name_rises (Some n) = gap_rises _ (level_rises refl none_rise)

definition_rises : (style : StyleOptions) (d : DefinitionTree) → Rises (definition_brackets d) (definition_layout style d)
definition_rises style (short s) = selection_set_rises style 0 s
definition_rises style (operation o) =
    level_rises refl (flat_rise (name_rises o.name)
    (both_rise (variable_definitions_rise style o.variables)
    (both_rise (directives_rise style 0 o.directives) (gap_rises _ (selection_set_rises style 0 o.selected)))))
definition_rises style (fragment f) =
    level_rises refl (gap_rises _ (level_rises refl
    (gap_rises _ (flat_rise (type_condition_rises f.condition)
    (both_rise (directives_rise style 0 f.directives) (gap_rises _ (selection_set_rises style 0 f.selected)))))))

pub document_rises : (style : StyleOptions) (d : DocumentTree) → Rises (most definition_brackets d) (document_layout style d)
document_rises style = separated_rise (definition_layout style) definition_brackets (definition_rises style)
