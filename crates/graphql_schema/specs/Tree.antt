-- The models of schema documents: names are bytes, and positions are kept.
use Rattle.std.specs.Prelude.{ℕ, Bool, true, false, ◌||◌, List, [], Option, None, is_some, map}
use Rattle.graphql_core.specs.{Place, ValueTree, TypeTree, DirectiveTree, no_place, erase_all, has_any}
use Rattle.graphql_schema.specs.declared.location.DirectiveLocation.{DirectiveLocation}

-- ---- parts of definitions

-- an argument of a field or of a directive, or a field of an input object
pub record InputValueTree : Type 0 where
  pub position : Place
  pub description : Option (List ℕ)
  pub name : List ℕ
  pub value_type : TypeTree
  pub default_value : Option ValueTree
  pub directives : List DirectiveTree

-- a field of an object type or of an interface
pub record FieldTree : Type 0 where
  pub position : Place
  pub description : Option (List ℕ)
  pub name : List ℕ
  pub arguments : List InputValueTree
  pub field_type : TypeTree
  pub directives : List DirectiveTree

pub record EnumValueTree : Type 0 where
  pub position : Place
  pub description : Option (List ℕ)
  pub name : List ℕ
  pub directives : List DirectiveTree

-- ---- definitions

-- the types of the operations, in a schema or in an extension of it
pub record SchemaTree : Type 0 where
  pub position : Place
  pub directives : List DirectiveTree
  pub query : Option (List ℕ)
  pub mutation : Option (List ℕ)
  pub subscription : Option (List ℕ)

-- the parts of a type, by its kind
pub data PartsTree : Type 0 where
  scalar : PartsTree
  object : (interfaces : List (List ℕ)) (fields : List FieldTree) → PartsTree
  interface : (interfaces : List (List ℕ)) (fields : List FieldTree) → PartsTree
  union : (types : List (List ℕ)) → PartsTree
  enum : (values : List EnumValueTree) → PartsTree
  input : (fields : List InputValueTree) → PartsTree

-- the common part of a type definition and a type extension
pub record BodyTree : Type 0 where
  pub position : Place
  pub name : List ℕ
  pub directives : List DirectiveTree
  pub parts : PartsTree

pub record DirectiveDefinitionTree : Type 0 where
  pub position : Place
  pub description : Option (List ℕ)
  pub name : List ℕ
  pub arguments : List InputValueTree
  pub repeatable : Bool
  pub locations : List DirectiveLocation

-- a type with this name and nothing else
abbrev pub bare : List ℕ → PartsTree → BodyTree
bare name parts = record { position = no_place; name = name; directives = []; parts = parts }

-- a schema, a type, an extension of a type, an extension of the schema, or a directive
pub data DefinitionTree : Type 0 where
  schema : (description : Option (List ℕ)) (s : SchemaTree) → DefinitionTree
  type_definition : (description : Option (List ℕ)) (b : BodyTree) → DefinitionTree
  extension : (b : BodyTree) → DefinitionTree
  schema_extension : (s : SchemaTree) → DefinitionTree
  directive : (d : DirectiveDefinitionTree) → DefinitionTree

-- a schema without operations, and a directive and a value of an enum with only a name
abbrev pub empty_schema : SchemaTree
empty_schema = record { position = no_place; directives = []; query = None; mutation = None; subscription = None }

abbrev pub bare_directive : List ℕ → DirectiveDefinitionTree
bare_directive name =
    record { position = no_place; description = None; name = name; arguments = []; repeatable = false; locations = [] }

abbrev pub bare_enum_value : List ℕ → EnumValueTree
bare_enum_value name = record { position = no_place; description = None; name = name; directives = [] }

-- a document: its definitions in order
abbrev pub DocumentTree : Type 0
DocumentTree = List DefinitionTree

-- ---- what an extension adds

-- a directive or a part; interfaces count for an object type, but not for an interface
abbrev pub adds_something : BodyTree → Bool
adds_something b = has_any b.directives || has_parts b.parts
  where
    has_parts : PartsTree → Bool
    has_parts scalar = false
    has_parts (object is fs) = has_any is || has_any fs
    has_parts (interface is fs) = has_any fs
    has_parts (union ts) = has_any ts
    has_parts (enum vs) = has_any vs
    has_parts (input fs) = has_any fs

-- some operation has a type
abbrev pub has_operation : SchemaTree → Bool
has_operation s = is_some s.query || (is_some s.mutation || is_some s.subscription)

-- a directive or an operation
abbrev pub adds_to_schema : SchemaTree → Bool
adds_to_schema s = has_any s.directives || has_operation s

-- an extension adds something
abbrev pub extends : DefinitionTree → Bool
extends (extension b) = adds_something b
extends (schema_extension s) = adds_to_schema s
extends _ = true

-- ---- without positions

abbrev pub erase_input_value : InputValueTree → InputValueTree
erase_input_value v = record {
  position = no_place;
  description = v.description;
  name = v.name;
  value_type = v.value_type;
  default_value = v.default_value;
  directives = erase_all v.directives;
}

abbrev pub erase_field : FieldTree → FieldTree
erase_field f = record {
  position = no_place;
  description = f.description;
  name = f.name;
  arguments = map erase_input_value f.arguments;
  field_type = f.field_type;
  directives = erase_all f.directives;
}

abbrev pub erase_enum_value : EnumValueTree → EnumValueTree
erase_enum_value v =
    record { position = no_place; description = v.description; name = v.name; directives = erase_all v.directives }

abbrev pub erase_schema : SchemaTree → SchemaTree
erase_schema s = record {
  position = no_place;
  directives = erase_all s.directives;
  query = s.query;
  mutation = s.mutation;
  subscription = s.subscription;
}

abbrev pub erase_parts : PartsTree → PartsTree
erase_parts scalar = scalar
erase_parts (object is fs) = object is (map erase_field fs)
erase_parts (interface is fs) = interface is (map erase_field fs)
erase_parts (union ts) = union ts
erase_parts (enum vs) = enum (map erase_enum_value vs)
erase_parts (input fs) = input (map erase_input_value fs)

abbrev pub erase_body : BodyTree → BodyTree
erase_body b =
    record { position = no_place; name = b.name; directives = erase_all b.directives; parts = erase_parts b.parts }

abbrev pub erase_directive : DirectiveDefinitionTree → DirectiveDefinitionTree
erase_directive d = record {
  position = no_place;
  description = d.description;
  name = d.name;
  arguments = map erase_input_value d.arguments;
  repeatable = d.repeatable;
  locations = d.locations;
}

abbrev pub erase_definition : DefinitionTree → DefinitionTree
erase_definition (schema d s) = schema d (erase_schema s)
erase_definition (type_definition d b) = type_definition d (erase_body b)
erase_definition (extension b) = extension (erase_body b)
erase_definition (schema_extension s) = schema_extension (erase_schema s)
erase_definition (directive d) = directive (erase_directive d)

-- every position becomes line 0, column 0
abbrev pub erase : DocumentTree → DocumentTree
erase d = map erase_definition d
