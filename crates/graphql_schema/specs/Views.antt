-- The models of the declared trees of schemas.
use Rattle.std.specs.Prelude.{ℕ, List, Option, option_map, map, string_bytes}
use Rattle.graphql_core.specs.{place_of, value_view, type_view, directives_view}
use Rattle.graphql_core.specs.declared.position.Pos.{Pos}
use Rattle.graphql_core.specs.declared.common.tree.Directive.{Directive}
use Rattle.graphql_schema.specs.Tree.{InputValueTree, FieldTree, EnumValueTree, SchemaTree, PartsTree, BodyTree, scalar}
use Rattle.graphql_schema.specs.Tree.{object, interface, union, enum, input, DirectiveDefinitionTree, DefinitionTree}
use Rattle.graphql_schema.specs.Tree.{schema, type_definition, extension, schema_extension, directive, DocumentTree}
use Rattle.graphql_schema.specs.declared.tree.parts.InputValue.{InputValue}
use Rattle.graphql_schema.specs.declared.tree.parts.Field.{Field}
use Rattle.graphql_schema.specs.declared.tree.parts.EnumValue.{EnumValue}
use Rattle.graphql_schema.specs.declared.tree.types.ScalarType.{ScalarType}
use Rattle.graphql_schema.specs.declared.tree.types.ObjectType.{ObjectType}
use Rattle.graphql_schema.specs.declared.tree.types.InterfaceType.{InterfaceType}
use Rattle.graphql_schema.specs.declared.tree.types.UnionType.{UnionType}
use Rattle.graphql_schema.specs.declared.tree.types.EnumType.{EnumType}
use Rattle.graphql_schema.specs.declared.tree.types.InputObjectType.{InputObjectType}
use Rattle.graphql_schema.specs.declared.tree.extensions.ScalarTypeExtension.{ScalarTypeExtension}
use Rattle.graphql_schema.specs.declared.tree.extensions.ObjectTypeExtension.{ObjectTypeExtension}
use Rattle.graphql_schema.specs.declared.tree.extensions.InterfaceTypeExtension.{InterfaceTypeExtension}
use Rattle.graphql_schema.specs.declared.tree.extensions.UnionTypeExtension.{UnionTypeExtension}
use Rattle.graphql_schema.specs.declared.tree.extensions.EnumTypeExtension.{EnumTypeExtension}
use Rattle.graphql_schema.specs.declared.tree.extensions.InputObjectTypeExtension.{InputObjectTypeExtension}
use Rattle.graphql_schema.specs.declared.tree.extensions.SchemaExtension.{SchemaExtension}
use Rattle.graphql_schema.specs.declared.tree.TypeDefinition.{TypeDefinition}
use Rattle.graphql_schema.specs.declared.tree.TypeExtension.{TypeExtension}
use Rattle.graphql_schema.specs.declared.tree.SchemaDefinition.{SchemaDefinition}
use Rattle.graphql_schema.specs.declared.tree.DirectiveDefinition.{DirectiveDefinition}
use Rattle.graphql_schema.specs.declared.tree.Definition.{Definition}
use Rattle.graphql_schema.specs.declared.tree.Document.{Document}
use Rattle.graphql_schema.specs.declared.tree.TypeDefinition.TheVariants as types
use Rattle.graphql_schema.specs.declared.tree.TypeExtension.TheVariants as extensions
use Rattle.graphql_schema.specs.declared.tree.Definition.TheVariants as definitions

module _ {N T : Type 0} (bytes : T → List ℕ) where
  -- ---- parts of definitions

  abbrev pub input_value_view : InputValue N T → InputValueTree
  input_value_view v = record {
    position = place_of v.position;
    description = option_map string_bytes v.description;
    name = bytes v.name;
    value_type = type_view bytes v.value_type;
    default_value = option_map (value_view bytes) v.default_value;
    directives = directives_view bytes v.directives.items;
  }

  abbrev pub field_view : Field N T → FieldTree
  field_view f = record {
    position = place_of f.position;
    description = option_map string_bytes f.description;
    name = bytes f.name;
    arguments = map input_value_view f.arguments.items;
    field_type = type_view bytes f.field_type;
    directives = directives_view bytes f.directives.items;
  }

  abbrev pub enum_value_view : EnumValue N T → EnumValueTree
  enum_value_view v = record {
    position = place_of v.position;
    description = option_map string_bytes v.description;
    name = bytes v.name;
    directives = directives_view bytes v.directives.items;
  }

  -- ---- types; a definition and an extension of the same kind have the same body

  abbrev pub body_view : Pos → T → List (Directive N T) → PartsTree → BodyTree
  body_view p n ds parts =
      record { position = place_of p; name = bytes n; directives = directives_view bytes ds; parts = parts }

  abbrev pub object_parts : List T → List (Field N T) → PartsTree
  object_parts is fs = object (map bytes is) (map field_view fs)

  abbrev pub interface_parts : List T → List (Field N T) → PartsTree
  interface_parts is fs = interface (map bytes is) (map field_view fs)

  abbrev pub enum_parts : List (EnumValue N T) → PartsTree
  enum_parts vs = enum (map enum_value_view vs)

  abbrev pub input_parts : List (InputValue N T) → PartsTree
  input_parts fs = input (map input_value_view fs)

  abbrev pub scalar_view : ScalarType N T → DefinitionTree
  scalar_view t =
      type_definition (option_map string_bytes t.description) (body_view t.position t.name t.directives.items scalar)

  abbrev pub object_view : ObjectType N T → DefinitionTree
  object_view t =
      type_definition (option_map string_bytes t.description)
      (body_view t.position t.name t.directives.items (object_parts t.implements_interfaces.items t.fields.items))

  abbrev pub interface_view : InterfaceType N T → DefinitionTree
  interface_view t =
      type_definition (option_map string_bytes t.description)
      (body_view t.position t.name t.directives.items (interface_parts t.implements_interfaces.items t.fields.items))

  abbrev pub union_view : UnionType N T → DefinitionTree
  union_view t = type_definition (option_map string_bytes t.description)
      (body_view t.position t.name t.directives.items (union (map bytes t.types.items)))

  abbrev pub enum_view : EnumType N T → DefinitionTree
  enum_view t = type_definition (option_map string_bytes t.description)
      (body_view t.position t.name t.directives.items (enum_parts t.values.items))

  abbrev pub input_view : InputObjectType N T → DefinitionTree
  input_view t = type_definition (option_map string_bytes t.description)
      (body_view t.position t.name t.directives.items (input_parts t.fields.items))

  abbrev pub type_definition_view : TypeDefinition N T → DefinitionTree
  type_definition_view (types.Scalar t) = scalar_view t
  type_definition_view (types.Object t) = object_view t
  type_definition_view (types.Interface t) = interface_view t
  type_definition_view (types.Union t) = union_view t
  type_definition_view (types.Enum t) = enum_view t
  type_definition_view (types.InputObject t) = input_view t

  -- ---- extensions

  abbrev pub scalar_extension_view : ScalarTypeExtension N T → DefinitionTree
  scalar_extension_view t = extension (body_view t.position t.name t.directives.items scalar)

  abbrev pub object_extension_view : ObjectTypeExtension N T → DefinitionTree
  object_extension_view t = extension
      (body_view t.position t.name t.directives.items (object_parts t.implements_interfaces.items t.fields.items))

  abbrev pub interface_extension_view : InterfaceTypeExtension N T → DefinitionTree
  interface_extension_view t = extension
      (body_view t.position t.name t.directives.items (interface_parts t.implements_interfaces.items t.fields.items))

  abbrev pub union_extension_view : UnionTypeExtension N T → DefinitionTree
  union_extension_view t = extension (body_view t.position t.name t.directives.items (union (map bytes t.types.items)))

  abbrev pub enum_extension_view : EnumTypeExtension N T → DefinitionTree
  enum_extension_view t = extension (body_view t.position t.name t.directives.items (enum_parts t.values.items))

  abbrev pub input_extension_view : InputObjectTypeExtension N T → DefinitionTree
  input_extension_view t = extension (body_view t.position t.name t.directives.items (input_parts t.fields.items))

  abbrev pub type_extension_view : TypeExtension N T → DefinitionTree
  type_extension_view (extensions.Scalar t) = scalar_extension_view t
  type_extension_view (extensions.Object t) = object_extension_view t
  type_extension_view (extensions.Interface t) = interface_extension_view t
  type_extension_view (extensions.Union t) = union_extension_view t
  type_extension_view (extensions.Enum t) = enum_extension_view t
  type_extension_view (extensions.InputObject t) = input_extension_view t

  -- ---- documents

  -- a schema without its description, or an extension of it
  abbrev pub operations_view : Pos → List (Directive N T) → (query mutation subscription : Option T) → SchemaTree
  operations_view p ds q m s = record {
    position = place_of p;
    directives = directives_view bytes ds;
    query = option_map bytes q;
    mutation = option_map bytes m;
    subscription = option_map bytes s;
  }

  abbrev pub schema_view : SchemaDefinition N T → SchemaTree
  schema_view s = operations_view s.position s.directives.items s.query s.mutation s.subscription

  -- a schema with its description
  abbrev pub schema_definition_view : SchemaDefinition N T → DefinitionTree
  schema_definition_view s = schema (option_map string_bytes s.description) (schema_view s)

  abbrev pub schema_extension_view : SchemaExtension N T → SchemaTree
  schema_extension_view s = operations_view s.position s.directives.items s.query s.mutation s.subscription

  abbrev pub directive_definition_view : DirectiveDefinition N T → DirectiveDefinitionTree
  directive_definition_view d = record {
    position = place_of d.position;
    description = option_map string_bytes d.description;
    name = bytes d.name;
    arguments = map input_value_view d.arguments.items;
    repeatable = d.repeatable;
    locations = d.locations.items;
  }

  abbrev pub definition_view : Definition N T → DefinitionTree
  definition_view (definitions.SchemaDefinition s) = schema_definition_view s
  definition_view (definitions.TypeDefinition t) = type_definition_view t
  definition_view (definitions.TypeExtension t) = type_extension_view t
  definition_view (definitions.SchemaExtension s) = schema_extension (schema_extension_view s)
  definition_view (definitions.DirectiveDefinition d) = directive (directive_definition_view d)

  abbrev pub document_view : Document N T → DocumentTree
  document_view d = map definition_view d.definitions.items
