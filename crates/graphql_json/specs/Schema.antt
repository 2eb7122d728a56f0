-- The nodes of schema documents.
use Rattle.std.specs.Prelude.{ℕ, List, ◌++◌, Option, Some, None, option_map, codes, map}
use Rattle.graphql_schema.specs.Locations.{word_of}
use Rattle.graphql_schema.specs.Tree.{InputValueTree, FieldTree, EnumValueTree, SchemaTree, PartsTree, scalar, object}
use Rattle.graphql_schema.specs.Tree.{interface, union, enum, input, BodyTree, DirectiveDefinitionTree, DefinitionTree}
use Rattle.graphql_schema.specs.Tree.{schema, type_definition, extension, schema_extension, directive, DocumentTree}
use Rattle.graphql_schema.specs.declared.location.DirectiveLocation.{DirectiveLocation}
use Rattle.graphql_json.specs.Json.{Json, Elements, no_elements, element}
use Rattle.graphql_json.specs.Nodes.{Member, node, one, optional, each, document_node, located}
use Rattle.graphql_json.specs.Values.{name_json, string_json, value_json, named_type_json, type_json, directives_json}
use Rattle.graphql_json.specs.Json as json

-- ---- parts of definitions

abbrev pub described : Option (List ℕ) → List Member
described d = optional (codes "description") (option_map string_json d)

abbrev pub input_value_json : InputValueTree → Json
input_value_json v =
    node (codes "InputValueDefinition")
    (located v.position
    ++ (described v.description
    ++ (one (codes "name") (name_json v.name)
    ++ (one (codes "type") (type_json v.value_type)
    ++ (optional (codes "defaultValue") (option_map value_json v.default_value) ++ directives_json v.directives)))))

abbrev pub field_json : FieldTree → Json
field_json f =
    node (codes "FieldDefinition")
    (located f.position
    ++ (described f.description
    ++ (one (codes "name") (name_json f.name)
    ++ (each (codes "arguments") (map input_value_json f.arguments)
    ++ (one (codes "type") (type_json f.field_type) ++ directives_json f.directives)))))

abbrev pub enum_value_json : EnumValueTree → Json
enum_value_json v =
    node (codes "EnumValueDefinition")
    (located v.position
    ++ (described v.description ++ (one (codes "name") (name_json v.name) ++ directives_json v.directives)))

-- ---- schemas

abbrev pub root_json : List ℕ → List ℕ → Json
root_json word n =
    node (codes "OperationTypeDefinition")
    (one (codes "operation") (json.string word) ++ one (codes "type") (named_type_json n))

-- the type of an operation, if there is one, before others
abbrev pub root_before : List ℕ → Option (List ℕ) → Elements → Elements
root_before word None others = others
root_before word (Some n) others = element (root_json word n) others

abbrev pub roots_json : SchemaTree → Elements
roots_json s =
    root_before (codes "query") s.query
    (root_before (codes "mutation") s.mutation (root_before (codes "subscription") s.subscription no_elements))

abbrev pub schema_json : List ℕ → Option (List ℕ) → SchemaTree → Json
schema_json kind d s =
    node kind
    (located s.position
    ++ (described d ++ (directives_json s.directives ++ one (codes "operationTypes") (json.array (roots_json s)))))

-- ---- types

-- the kind of a type, without `Definition` or `Extension` at its end
abbrev pub type_word : PartsTree → List ℕ
type_word scalar = codes "ScalarType"
type_word (object is fs) = codes "ObjectType"
type_word (interface is fs) = codes "InterfaceType"
type_word (union ts) = codes "UnionType"
type_word (enum vs) = codes "EnumType"
type_word (input fs) = codes "InputObjectType"

abbrev pub named_types_json : List ℕ → List (List ℕ) → List Member
named_types_json name ns = each name (map named_type_json ns)

-- the directives of a type, between its interfaces and its fields, member types or values
abbrev pub parts_json : List Member → PartsTree → List Member
parts_json directives scalar = directives
parts_json directives (object is fs) =
    named_types_json (codes "interfaces") is ++ (directives ++ each (codes "fields") (map field_json fs))
parts_json directives (interface is fs) =
    named_types_json (codes "interfaces") is ++ (directives ++ each (codes "fields") (map field_json fs))
parts_json directives (union ts) = directives ++ named_types_json (codes "types") ts
parts_json directives (enum vs) = directives ++ each (codes "values") (map enum_value_json vs)
parts_json directives (input fs) = directives ++ each (codes "fields") (map input_value_json fs)

abbrev pub type_body_json : List ℕ → Option (List ℕ) → BodyTree → Json
type_body_json kind d b =
    node kind
    (located b.position
    ++ (described d ++ (one (codes "name") (name_json b.name) ++ parts_json (directives_json b.directives) b.parts)))

-- ---- definitions

abbrev pub location_json : DirectiveLocation → Json
location_json l = name_json (word_of l)

abbrev pub directive_definition_json : DirectiveDefinitionTree → Json
directive_definition_json d =
    node (codes "DirectiveDefinition")
    (located d.position
    ++ (described d.description
    ++ (one (codes "name") (name_json d.name)
    ++ (each (codes "arguments") (map input_value_json d.arguments)
    ++ (one (codes "repeatable") (json.boolean d.repeatable)
    ++ each (codes "locations") (map location_json d.locations))))))

abbrev pub definition_json : DefinitionTree → Json
definition_json (schema d s) = schema_json (codes "SchemaDefinition") d s
definition_json (type_definition d b) = type_body_json (type_word b.parts ++ codes "Definition") d b
definition_json (extension b) = type_body_json (type_word b.parts ++ codes "Extension") None b
definition_json (schema_extension s) = schema_json (codes "SchemaExtension") None s
definition_json (directive d) = directive_definition_json d

abbrev pub document_json : DocumentTree → Json
document_json d = document_node (map definition_json d)
