-- The nodes inside values, types, arguments and directives.
use Rattle.std.specs.Prelude.{ℕ, List, map}
use Rattle.graphql_core.specs.{ValueTree, TypeTree, DirectiveTree}
use Rattle.graphql_core.specs.values.Values.{list, object, ValueItems, no_items, item, ValueMembers, no_members}
use Rattle.graphql_core.specs.values.Values.{member, named, list_of, non_null}
use Rattle.graphql_walk.specs.Nodes.{Branch, branch, Branches, none, more, only, branches_of}
use Rattle.graphql_walk.specs.Nodes.{argument, directive, type, value, object_field}

-- the nodes inside a value: the items of a list, in order; the fields of an object, by name
abbrev mutual
  pub inside_value : ValueTree → Branches
  inside_value (list vs) = items_branches vs
  inside_value (object ms) = fields_branches ms
  inside_value _ = none

  pub items_branches : ValueItems → Branches
  items_branches no_items = none
  items_branches (item v vs) = more (branch (value v) (inside_value v)) (items_branches vs)

  pub fields_branches : ValueMembers → Branches
  fields_branches no_members = none
  fields_branches (member n v ms) =
      more (branch (object_field n v) (only (branch (value v) (inside_value v)))) (fields_branches ms)

abbrev pub value_branch : ValueTree → Branch
value_branch v = branch (value v) (inside_value v)

-- the type inside a type
abbrev pub inside_type : TypeTree → Branches
inside_type (named n) = none
inside_type (list_of t) = only (branch (type t) (inside_type t))
inside_type (non_null t) = only (branch (type t) (inside_type t))

abbrev pub type_branch : TypeTree → Branch
type_branch t = branch (type t) (inside_type t)

abbrev pub argument_branch : List ℕ × ValueTree → Branch
argument_branch a = branch (argument a.0 a.1) (only (value_branch a.1))

abbrev pub arguments_branches : List (List ℕ × ValueTree) → Branches
arguments_branches arguments = branches_of (map argument_branch arguments)

abbrev pub directive_branch : DirectiveTree → Branch
directive_branch d = branch (directive d) (arguments_branches d.arguments)

abbrev pub directives_branches : List DirectiveTree → Branches
directives_branches ds = branches_of (map directive_branch ds)
