-- The abstract values that declared values, types and directives stand for.
use Rattle.std.specs.Prelude.{ℕ, List, [], ◌∷◌, map, string_bytes}
use Rattle.graphql_core.specs.sources.{place_of}
use Rattle.graphql_core.specs.values.Values.{float, string, item, enum, object, int, ValueTree, variable, boolean, null}
use Rattle.graphql_core.specs.values.Values.{list, ValueItems, no_items, ValueMembers, no_members, member, TypeTree}
use Rattle.graphql_core.specs.values.Values.{named, list_of, non_null, DirectiveTree}
use Rattle.graphql_core.specs.declared.common.tree.Value.{Value, fold-Value}
use Rattle.graphql_core.specs.declared.common.tree.Value.TheOpen.{Value-F}
use Rattle.graphql_core.specs.declared.common.tree.Type.TheOpen.{Type-F}
use Rattle.graphql_core.specs.declared.common.tree.Directive.{Directive}
use Rattle.graphql_core.specs.declared.common.tree.Type as declared

abbrev pub listed_values : List ValueTree → ValueItems
listed_values [] = no_items
listed_values (v ∷ vs) = item v (listed_values vs)

module _ {V : Type 0} (bytes : V → List ℕ) where
  abbrev pub members_of : List (V × ValueTree) → ValueMembers
  members_of [] = no_members
  members_of (m ∷ ms) = member (bytes m.0) m.1 (members_of ms)

module _ {N V : Type 0} (bytes : V → List ℕ) where
  -- one level of a value, with the values inside already converted
  abbrev pub value_step : Value-F N V ValueTree → ValueTree
  value_step (Value-F.Variable v) = variable (bytes v)
  value_step (Value-F.Int n) = int n
  value_step (Value-F.Float f) = float f
  value_step (Value-F.String s) = string (string_bytes s)
  value_step (Value-F.Boolean b) = boolean b
  value_step Value-F.Null = null
  value_step (Value-F.Enum v) = enum (bytes v)
  value_step (Value-F.List v) = list (listed_values v.items)
  value_step (Value-F.Object m) = object (members_of bytes m.entries)

  abbrev pub value_view : Value N V → ValueTree
  value_view = fold-Value N V ValueTree value_step

  abbrev pub items_view : List (Value N V) → ValueItems
  items_view vs = listed_values (map value_view vs)

  abbrev pub members_view : List (V × Value N V) → ValueMembers
  members_view ms = members_of bytes (map (λ m. (m.0, value_view m.1)) ms)

  abbrev pub type_step : Type-F N V TypeTree → TypeTree
  type_step (Type-F.NamedType v) = named (bytes v)
  type_step (Type-F.ListType t) = list_of t.value
  type_step (Type-F.NonNullType t) = non_null t.value

  abbrev pub type_view : declared.Type N V → TypeTree
  type_view = declared.fold-Type N V TypeTree type_step

  abbrev pub argument_view : V × Value N V → List ℕ × ValueTree
  argument_view a = (bytes a.0, value_view a.1)

  abbrev pub arguments_view : List (V × Value N V) → List (List ℕ × ValueTree)
  arguments_view = map argument_view

  abbrev pub directive_view : Directive N V → DirectiveTree
  directive_view d =
      record { position = place_of d.position; name = bytes d.name; arguments = arguments_view d.arguments.items }

  abbrev pub directives_view : List (Directive N V) → List DirectiveTree
  directives_view = map directive_view
