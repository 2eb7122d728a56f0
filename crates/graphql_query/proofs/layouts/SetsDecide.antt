-- If arguments are in one line, a document opens at most one level more than its selection sets.
use Rattle.std.proofs.Common.{◌≡◌, ◌≤◌, ◌+◌, ℕ, false, refl, List, [], ◌∷◌, arith}
use Rattle.graphql_core.specs.{StyleOptions, ValueTree, DirectiveTree, most, arguments_depth, directives_depth}
use Rattle.graphql_core.proofs.{most_bounded, default_bounded, arguments_bounded, directives_bounded}
use Rattle.graphql_query.specs.{spread, more, SelectionTree, SelectionSetTree, SelectionTrees, VariableDefinitionTree, DefinitionTree, short, operation}
use Rattle.graphql_query.specs.{fragment, DocumentTree, field, inline, set, none, selection_levels, selected_levels, selection_set_levels, selections_levels}
use Rattle.graphql_query.specs.{variable_definition_levels, definition_levels, levels, selection_set_of_definition, selection_depth, selected_depth}
use Rattle.graphql_query.specs.{selection_set_depth, selections_depth, definition_depth, in_sets}

-- ---- levels of selection sets alone

pub no_arguments : (arguments : List (List ℕ × ValueTree)) → arguments_depth in_sets arguments ≡ 0
no_arguments [] = refl
no_arguments (a ∷ arguments) = refl

pub no_directives : (ds : List DirectiveTree) → directives_depth in_sets ds ≡ 0
no_directives [] = refl
no_directives (d ∷ ds) = let first = no_arguments d.arguments in let others = no_directives ds in omega (arith, first, others)

pub sets_alone : (d : DefinitionTree) → definition_depth in_sets d ≡ selection_set_depth in_sets (selection_set_of_definition d)
sets_alone (short s) = refl
sets_alone (operation o) = rw (no_directives o.directives) (omega arith)
sets_alone (fragment f) = rw (no_directives f.directives) (omega arith)

-- ---- if arguments are in one line, all levels are at most one more

module _ (style : StyleOptions) (one_line : style.multiline ≡ false) where
  mutual
    selection_within : (s : SelectionTree) → selection_levels style s ≤ selection_depth in_sets s + 1
    selection_within (field p alias n arguments ds s) =
        let given = arguments_bounded style one_line arguments in
        let directives = directives_bounded style one_line ds in
        let selected = selected_within s in
        omega (arith, given, directives, selected)
    selection_within (spread p n ds) = let directives = directives_bounded style one_line ds in omega (arith, directives)
    selection_within (inline p condition ds s) =
        let directives = directives_bounded style one_line ds in
        let selected = set_within s in
        omega (arith, directives, selected)

    selected_within : (s : SelectionSetTree) → selected_levels style s ≤ selected_depth in_sets s + 1
    selected_within (set o c none) = omega arith
    selected_within (set o c (more s ss)) = let inside = selections_within (more s ss) in omega (arith, inside)

    set_within : (s : SelectionSetTree) → selection_set_levels style s ≤ selection_set_depth in_sets s + 1
    set_within (set o c ss) = let inside = selections_within ss in omega (arith, inside)

    selections_within : (ss : SelectionTrees) → selections_levels style ss ≤ selections_depth in_sets ss + 1
    selections_within none = omega arith
    selections_within (more s ss) = let first = selection_within s in let others = selections_within ss in omega (arith, first, others)

  variable_definition_bounded : (v : VariableDefinitionTree) → variable_definition_levels style v ≤ 1
  variable_definition_bounded v =
      let given = default_bounded style one_line v.default_value in
      let directives = directives_bounded style one_line v.directives in
      omega (arith, given, directives)

  definition_within : (d : DefinitionTree) → definition_levels style d ≤ definition_depth in_sets d + 1
  definition_within (short s) = set_within s
  definition_within (operation o) =
      let variables = most_bounded (variable_definition_levels style) 1 variable_definition_bounded o.variables in
      let directives = directives_bounded style one_line o.directives in
      let selected = set_within o.selected in
      omega (arith, variables, directives, selected)
  definition_within (fragment f) =
      let directives = directives_bounded style one_line f.directives in
      let selected = set_within f.selected in
      omega (arith, directives, selected)

  pub document_within : (d : DocumentTree) → levels style d ≤ most (definition_depth in_sets) d + 1
  document_within [] = omega arith
  document_within (d ∷ ds) = let first = definition_within d in let others = document_within ds in omega (arith, first, others)
