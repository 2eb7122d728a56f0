-- How deep the definitions of a schema nest, counted with weights.
use Rattle.std.specs.Prelude.{ℕ, max, cond}
use Rattle.graphql_core.specs.{Weights, most_around, most_enclosed, default_depth, directives_depth}
use Rattle.graphql_schema.specs.Tree.{InputValueTree, FieldTree, EnumValueTree, SchemaTree, PartsTree, scalar, object}
use Rattle.graphql_schema.specs.Tree.{interface, union, enum, input, BodyTree, DefinitionTree, schema, type_definition}
use Rattle.graphql_schema.specs.Tree.{extension, schema_extension, directive, has_operation}

abbrev pub input_value_depth : Weights → InputValueTree → ℕ
input_value_depth w v =
    max (w.of_description v.description)
    (max (w.of_type v.value_type) (max (default_depth w v.default_value) (directives_depth w v.directives)))

abbrev pub field_depth : Weights → FieldTree → ℕ
field_depth w f =
    max (w.of_description f.description)
    (max (most_around w.around_definitions (input_value_depth w) f.arguments)
    (max (w.of_type f.field_type) (directives_depth w f.directives)))

abbrev pub enum_value_depth : Weights → EnumValueTree → ℕ
enum_value_depth w v = max (w.of_description v.description) (directives_depth w v.directives)

-- braces add one level, if there is anything in them
abbrev pub parts_depth : Weights → PartsTree → ℕ
parts_depth w scalar = 0
parts_depth w (object is fs) = most_enclosed (field_depth w) fs
parts_depth w (interface is fs) = most_enclosed (field_depth w) fs
parts_depth w (union ts) = 0
parts_depth w (enum vs) = most_enclosed (enum_value_depth w) vs
parts_depth w (input fs) = most_enclosed (input_value_depth w) fs

abbrev pub body_depth : Weights → BodyTree → ℕ
body_depth w b = max (directives_depth w b.directives) (parts_depth w b.parts)

-- a schema always has braces
abbrev pub schema_depth : Weights → SchemaTree → ℕ
schema_depth w s = max (directives_depth w s.directives) 1

-- an extension of the schema has braces only if it names an operation
abbrev pub schema_extension_depth : Weights → SchemaTree → ℕ
schema_extension_depth w s = max (directives_depth w s.directives) (cond (has_operation s) 1 0)

abbrev pub definition_depth : Weights → DefinitionTree → ℕ
definition_depth w (schema d s) = max (w.of_description d) (schema_depth w s)
definition_depth w (type_definition d b) = max (w.of_description d) (body_depth w b)
definition_depth w (extension b) = body_depth w b
definition_depth w (schema_extension s) = schema_extension_depth w s
definition_depth w (directive d) =
    max (w.of_description d.description) (most_around w.around_definitions (input_value_depth w) d.arguments)
