-- The nodes of names, values, types, arguments and directives.
use Rattle.std.specs.Prelude.{ℕ, List, [], ◌++◌, codes, map}
use Rattle.graphql_core.specs.{signed_decimal, ValueTree, TypeTree, DirectiveTree}
use Rattle.graphql_core.specs.values.Values.{variable, int, float, string, boolean, null, enum, list, object}
use Rattle.graphql_core.specs.values.Values.{ValueItems, no_items, item, ValueMembers, no_members, member}
use Rattle.graphql_core.specs.values.Values.{named, list_of, non_null}
use Rattle.graphql_json.specs.Json.{Json, Elements, no_elements, element}
use Rattle.graphql_json.specs.Nodes.{Member, node, one, each, located}
use Rattle.graphql_json.specs.Json as json

abbrev pub name_json : List ℕ → Json
name_json n = node (codes "Name") (one (codes "value") (json.string n))

-- a node that has only a name
abbrev pub named_json : List ℕ → List ℕ → Json
named_json kind n = node kind (one (codes "name") (name_json n))

-- a node that has only a value
abbrev pub valued_json : List ℕ → Json → Json
valued_json kind v = node kind (one (codes "value") v)

-- a node that has a name and a value: an argument or a field of an object
abbrev pub pair_json : List ℕ → List ℕ → Json → Json
pair_json kind n v = node kind (one (codes "name") (name_json n) ++ one (codes "value") v)

-- ---- values

abbrev pub list_json : Elements → Json
list_json vs = node (codes "ListValue") (one (codes "values") (json.array vs))

abbrev pub object_json : Elements → Json
object_json fs = node (codes "ObjectValue") (one (codes "fields") (json.array fs))

abbrev pub string_json : List ℕ → Json
string_json text = valued_json (codes "StringValue") (json.string text)

abbrev mutual
  pub value_json : ValueTree → Json
  value_json (variable n) = named_json (codes "Variable") n
  value_json (int i) = valued_json (codes "IntValue") (json.string (signed_decimal i))
  value_json (float literal) = valued_json (codes "FloatValue") (json.string literal)
  value_json (string text) = string_json text
  value_json (boolean b) = valued_json (codes "BooleanValue") (json.boolean b)
  value_json null = node (codes "NullValue") []
  value_json (enum n) = valued_json (codes "EnumValue") (json.string n)
  value_json (list vs) = list_json (items_json vs)
  value_json (object ms) = object_json (fields_json ms)

  pub items_json : ValueItems → Elements
  items_json no_items = no_elements
  items_json (item v vs) = element (value_json v) (items_json vs)

  pub fields_json : ValueMembers → Elements
  fields_json no_members = no_elements
  fields_json (member n v ms) = element (pair_json (codes "ObjectField") n (value_json v)) (fields_json ms)

-- ---- types

abbrev pub named_type_json : List ℕ → Json
named_type_json = named_json (codes "NamedType")

abbrev pub type_json : TypeTree → Json
type_json (named n) = named_type_json n
type_json (list_of t) = node (codes "ListType") (one (codes "type") (type_json t))
type_json (non_null t) = node (codes "NonNullType") (one (codes "type") (type_json t))

-- ---- arguments and directives

abbrev pub argument_json : List ℕ × ValueTree → Json
argument_json a = pair_json (codes "Argument") a.0 (value_json a.1)

abbrev pub arguments_json : List (List ℕ × ValueTree) → List Member
arguments_json arguments = each (codes "arguments") (map argument_json arguments)

abbrev pub directive_json : DirectiveTree → Json
directive_json d =
    node (codes "Directive")
    (located d.position ++ (one (codes "name") (name_json d.name) ++ arguments_json d.arguments))

abbrev pub directives_json : List DirectiveTree → List Member
directives_json ds = each (codes "directives") (map directive_json ds)
