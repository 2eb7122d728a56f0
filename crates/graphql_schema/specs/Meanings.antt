-- The documents that parse trees of schemas denote, a line or two for each production.
use Rattle.std.specs.Prelude.{ℕ, false, List, [], ◌∷◌, Option, Some, None, codes}
use Rattle.graphql_core.specs.{nowhere, ParseTree, Both, First, Second, Node, leaves, string_of, block_string_of, named}
use Rattle.graphql_core.specs.{place_at, first_place, spelling_at, type_of, optional_default_of, directives_of}
use Rattle.graphql_core.specs.{optional_of, optional_list_of, each_of, enclosed_of, is_there, joined_of}
use Rattle.graphql_schema.specs.Roots.{Root, roots_of, roots_in, type_in}
use Rattle.graphql_schema.specs.declared.location.DirectiveLocation.{DirectiveLocation}
use Rattle.graphql_schema.specs.Locations.{location_of}
use Rattle.graphql_schema.specs.Tree.{InputValueTree, FieldTree, EnumValueTree, SchemaTree, PartsTree, scalar, object}
use Rattle.graphql_schema.specs.Tree.{interface, union, enum, input, BodyTree, DirectiveDefinitionTree, DefinitionTree}
use Rattle.graphql_schema.specs.Tree.{schema, type_definition, extension, schema_extension, directive, DocumentTree}

-- ---- parts of definitions

-- the value of a description, which is a string or a block string
abbrev pub description_of : ParseTree → List ℕ
description_of (Node k (First t)) = string_of (spelling_at t)
description_of (Node k (Second t)) = block_string_of (spelling_at t)
description_of _ = []

-- the position of an argument or of an input object's field is that of its first token: the description, if any
abbrev pub input_value_of : ParseTree → InputValueTree
input_value_of (Node k (Both d (Both n (Both c (Both t (Both v ds)))))) = record {
  position = first_place (leaves (Both d n));
  description = optional_of description_of d;
  name = spelling_at n;
  value_type = type_of t;
  default_value = optional_default_of v;
  directives = directives_of ds;
}
input_value_of _ =
    record {
      position = nowhere;
      description = None;
      name = [];
      value_type = named [];
      default_value = None;
      directives = [];
    }

-- the position of a field is also that of its first token
abbrev pub field_of : ParseTree → FieldTree
field_of (Node k (Both d (Both n (Both arguments (Both c (Both t ds)))))) = record {
  position = first_place (leaves (Both d n));
  description = optional_of description_of d;
  name = spelling_at n;
  arguments = optional_list_of (enclosed_of input_value_of) arguments;
  field_type = type_of t;
  directives = directives_of ds;
}
field_of _ =
    record { position = nowhere; description = None; name = []; arguments = []; field_type = named []; directives = [] }

-- and so is the position of a value of an enum
abbrev pub enum_value_of : ParseTree → EnumValueTree
enum_value_of (Node k (Both d (Both n ds))) = record {
  position = first_place (leaves (Both d n));
  description = optional_of description_of d;
  name = spelling_at n;
  directives = directives_of ds;
}
enum_value_of _ = record { position = nowhere; description = None; name = []; directives = [] }

-- the names of interfaces after `implements`
abbrev pub interfaces_of : ParseTree → List (List ℕ)
interfaces_of (Node k (Both w ns)) = joined_of spelling_at [] ns
interfaces_of _ = []

-- the names of types after `=`
abbrev pub members_of : ParseTree → List (List ℕ)
members_of (Node k (Both e ns)) = joined_of spelling_at [] ns
members_of _ = []

-- ---- schemas

abbrev pub no_schema : SchemaTree
no_schema = record { position = nowhere; directives = []; query = None; mutation = None; subscription = None }

-- a schema, or an extension of it, with these operations
abbrev pub schema_by : ParseTree → ParseTree → List Root → SchemaTree
schema_by w ds rs = record {
  position = place_at w;
  directives = directives_of ds;
  query = type_in rs (codes "query");
  mutation = type_in rs (codes "mutation");
  subscription = type_in rs (codes "subscription");
}

-- the position of a schema is that of its keyword
abbrev pub schema_of : ParseTree → SchemaTree
schema_of (Node k (Both w (Both ds (Both o (Both roots c))))) = schema_by w ds (roots_of roots)
schema_of _ = no_schema

-- the position of an extension of the schema is that of the keyword after `extend`
abbrev pub schema_extension_of : ParseTree → SchemaTree
schema_extension_of (Node k (Both w (Both ds rs))) = schema_by w ds (roots_in rs)
schema_extension_of _ = no_schema

-- ---- types; the position of a type is that of its keyword

abbrev pub body_by : ParseTree → ParseTree → ParseTree → PartsTree → BodyTree
body_by w n ds parts =
    record { position = place_at w; name = spelling_at n; directives = directives_of ds; parts = parts }

abbrev pub no_body : BodyTree
no_body = record { position = nowhere; name = []; directives = []; parts = scalar }

abbrev pub scalar_of : ParseTree → BodyTree
scalar_of (Node k (Both w (Both n ds))) = body_by w n ds scalar
scalar_of _ = no_body

abbrev pub object_of : ParseTree → BodyTree
object_of (Node k (Both w (Both n (Both is (Both ds fs))))) =
    body_by w n ds (object (optional_list_of interfaces_of is) (optional_list_of (enclosed_of field_of) fs))
object_of _ = no_body

abbrev pub interface_of : ParseTree → BodyTree
interface_of (Node k (Both w (Both n (Both is (Both ds fs))))) =
    body_by w n ds (interface (optional_list_of interfaces_of is) (optional_list_of (enclosed_of field_of) fs))
interface_of _ = no_body

abbrev pub union_of : ParseTree → BodyTree
union_of (Node k (Both w (Both n (Both ds ms)))) = body_by w n ds (union (optional_list_of members_of ms))
union_of _ = no_body

abbrev pub enum_of : ParseTree → BodyTree
enum_of (Node k (Both w (Both n (Both ds vs)))) =
    body_by w n ds (enum (optional_list_of (enclosed_of enum_value_of) vs))
enum_of _ = no_body

abbrev pub input_of : ParseTree → BodyTree
input_of (Node k (Both w (Both n (Both ds fs)))) =
    body_by w n ds (input (optional_list_of (enclosed_of input_value_of) fs))
input_of _ = no_body

abbrev pub body_of : ParseTree → BodyTree
body_of (Node k (First b)) = scalar_of b
body_of (Node k (Second (First b))) = object_of b
body_of (Node k (Second (Second (First b)))) = interface_of b
body_of (Node k (Second (Second (Second (First b))))) = union_of b
body_of (Node k (Second (Second (Second (Second (First b)))))) = enum_of b
body_of (Node k (Second (Second (Second (Second (Second b)))))) = input_of b
body_of _ = no_body

-- ---- directives

abbrev pub location_at : ParseTree → Option DirectiveLocation
location_at (Node k n) = location_of (spelling_at n)
location_at _ = None

-- the values of the options that have one
abbrev pub present : {A : Type 0} → List (Option A) → List A
present [] = []
present (None ∷ os) = present os
present (Some x ∷ os) = x ∷ present os

abbrev pub locations_of : ParseTree → List DirectiveLocation
locations_of (Node k ls) = present (joined_of location_at None ls)
locations_of _ = []

-- the position of a directive definition is that of its keyword
abbrev pub directive_definition_of : Option (List ℕ) → ParseTree → DirectiveDefinitionTree
directive_definition_of description (Node k (Both w (Both a (Both n (Both arguments (Both r (Both o ls))))))) = record {
  position = place_at w;
  description = description;
  name = spelling_at n;
  arguments = optional_list_of (enclosed_of input_value_of) arguments;
  repeatable = is_there r;
  locations = locations_of ls;
}
directive_definition_of description _ =
    record { position = nowhere; description = None; name = []; arguments = []; repeatable = false; locations = [] }

-- ---- documents

-- the position of an extension is that of the keyword after `extend`
abbrev pub extension_of : ParseTree → DefinitionTree
extension_of (Node k (First (Both w b))) = extension (body_of b)
extension_of (Node k (Second (Both w s))) = schema_extension (schema_extension_of s)
-- in version 0.4.1, only of a type
extension_of (Node k (Both w b)) = extension (body_of b)
extension_of _ = extension no_body

abbrev pub described_of : ParseTree → DefinitionTree
described_of (Node k (First (Both d b))) = type_definition (optional_of description_of d) (body_of b)
described_of (Node k (Second (Both d b))) = directive (directive_definition_of (optional_of description_of d) b)
described_of _ = extension no_body

abbrev pub item_of : ParseTree → DefinitionTree
item_of (Node k (First (Both d s))) = schema (optional_of description_of d) (schema_of s)
-- in version 0.4.1, without a description
item_of (Node k (First s)) = schema None (schema_of s)
item_of (Node k (Second (First e))) = extension_of e
item_of (Node k (Second (Second d))) = described_of d
item_of _ = extension no_body

abbrev pub document_of : ParseTree → DocumentTree
document_of (Node k x) = each_of item_of x
document_of _ = []
