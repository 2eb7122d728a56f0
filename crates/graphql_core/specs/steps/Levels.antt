-- Levels and brackets of the parts of values, arguments and directives.
use Rattle.std.specs.Prelude.{ℕ, List}
use Rattle.graphql_core.specs.values.{ValueItems, ValueMembers, ValueTree, DirectiveTree, items_depth, members_depth}
use Rattle.graphql_core.specs.values.{argument_depth, arguments_depth, directives_depth, in_brackets, most}
use Rattle.graphql_core.specs.layouts.{StyleOptions, in_levels}

abbrev pub items_levels : StyleOptions → ValueItems → ℕ
items_levels style = items_depth (in_levels style)

abbrev pub members_levels : StyleOptions → ValueMembers → ℕ
members_levels style = members_depth (in_levels style)

abbrev pub most_levels : StyleOptions → List (List ℕ × ValueTree) → ℕ
most_levels style = most (argument_depth (in_levels style))

abbrev pub items_brackets : ValueItems → ℕ
items_brackets = items_depth in_brackets

abbrev pub members_brackets : ValueMembers → ℕ
members_brackets = members_depth in_brackets

abbrev pub argument_brackets : List ℕ × ValueTree → ℕ
argument_brackets = argument_depth in_brackets

abbrev pub arguments_brackets : List (List ℕ × ValueTree) → ℕ
arguments_brackets = arguments_depth in_brackets

abbrev pub directives_brackets : List DirectiveTree → ℕ
directives_brackets = directives_depth in_brackets
