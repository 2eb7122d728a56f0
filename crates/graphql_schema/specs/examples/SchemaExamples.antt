-- The documents of some small inputs, how these documents are formatted, and where other inputs are rejected.
use Rattle.std.specs.Prelude.{◌≡◌, ℕ, true, List, [], ◌∷◌, Option, Some, None, codes}
use Rattle.graphql_core.specs.{with_indent, with_multiline, Place, Sym, IsLeast, Reason, Unexpected, Improper, RejectedNode}
use Rattle.graphql_core.specs.{StyleOptions, default_style, Item, HasItems, split, numbered, named, location_class}
use Rattle.graphql_core.specs.{variable}
use Rattle.graphql_schema.specs.Tree.{EnumValueTree, SchemaTree, PartsTree, object, union, enum, schema, empty_schema}
use Rattle.graphql_schema.specs.Tree.{type_definition, extension, schema_extension, DocumentTree}
use Rattle.graphql_schema.specs.Grammar.{schema_grammar, document_symbol, schema_symbol, extension_symbol}
use Rattle.graphql_schema.specs.Grammar.{schema_extension_symbol}
use Rattle.graphql_schema.specs.Language.{IsDocumentOf}
use Rattle.graphql_schema.specs.Layout.{layout, IsTooWide}
use Rattle.graphql_schema.specs.Printable.{IsPrintable}

abbrev at : ℕ → ℕ → Place
at line column = record { line = line; column = column }

-- ---- documents of inputs

-- a type with this name at the start of the input, without description and directives
abbrev first_type : List ℕ → PartsTree → DocumentTree
first_type name parts =
    type_definition None (record { position = at 1 1; name = name; directives = []; parts = parts }) ∷ []

abbrev operations : Place → (query mutation : Option (List ℕ)) → SchemaTree
operations place query mutation =
    record { position = place; directives = []; query = query; mutation = mutation; subscription = None }

abbrev plain_value : ℕ → List ℕ → EnumValueTree
plain_value column name = record { position = at 1 column; description = None; name = name; directives = [] }

-- the documents of some small inputs
pub record WorkedMeanings : Type 0 where
  -- a type is at its keyword, a field is at its description, and an argument is at its name
  pub positions : IsDocumentOf (codes "type A {\n  \"d\" f(x: Int): B\n}") (first_type (codes "A") (object [] (record {
    position = at 2 3;
    description = Some (codes "d");
    name = codes "f";
    arguments = record {
      position = at 2 9;
      description = None;
      name = codes "x";
      value_type = named (codes "Int");
      default_value = None;
      directives = [];
    } ∷ [];
    field_type = named (codes "B");
    directives = [];
  } ∷ [])))
  -- a `|` before the first member is ignored
  pub leading_bar : IsDocumentOf (codes "union U = | A | B")
      (first_type (codes "U") (union (codes "A" ∷ codes "B" ∷ [])))
  -- the braces of a schema can be empty
  pub empty_schema : IsDocumentOf (codes "schema {}") (schema None (operations (at 1 1) None None) ∷ [])
  -- a schema is at its keyword, not at its description
  pub described_schema : IsDocumentOf (codes "\"d\" schema { query: Q }")
      (schema (Some (codes "d")) (operations (at 1 5) (Some (codes "Q")) None) ∷ [])
  -- an extension of the schema is at the keyword after `extend`
  pub schema_extension : IsDocumentOf (codes "extend schema { mutation: M }")
      (schema_extension (operations (at 1 8) None (Some (codes "M"))) ∷ [])
  -- a value of an enum can have any name
  pub any_name : IsDocumentOf (codes "enum E { on true }")
      (first_type (codes "E") (enum (plain_value 10 (codes "on") ∷ plain_value 13 (codes "true") ∷ [])))
  -- an argument of a directive can be a variable
  pub variable_argument : IsDocumentOf (codes "type A { f: Int @d(x: $y) }")
      (first_type (codes "A") (object [] (record {
        position = at 1 10;
        description = None;
        name = codes "f";
        arguments = [];
        field_type = named (codes "Int");
        directives =
            record { position = at 1 17; name = codes "d"; arguments = (codes "x", variable (codes "y")) ∷ [] } ∷ [];
      } ∷ [])))
  -- an extension is at the keyword after `extend`
  pub extension : IsDocumentOf (codes "extend type A implements B")
      (extension (record { position = at 1 8; name = codes "A"; directives = []; parts = object (codes "B" ∷ []) [] })
      ∷ [])

-- ---- layouts of documents

-- the input parses to a document that is formatted like this in the style
abbrev pub IsShown : StyleOptions → List ℕ → List ℕ → Type 0
IsShown style text shown = (d : DocumentTree) × IsDocumentOf text d × (layout style d ≡ shown)

-- the same in the default style
abbrev pub Shows : List ℕ → List ℕ → Type 0
Shows = IsShown default_style

-- how the documents of some small inputs are formatted
pub record WorkedLayouts : Type 0 where
  pub positions_layout : Shows (codes "type A {\n  \"d\" f(x: Int): B\n}")
      (codes "type A {\n  \"d\"\n  f(x: Int): B\n}\n")
  pub directive_layout : Shows (codes "directive @d(\"x\" a: Int = 1, b: [B!]) repeatable on FIELD | QUERY")
      (codes "directive @d(\"x\" a: Int = 1, b: [B!]) repeatable on FIELD | QUERY\n")
  -- arguments of a definition are on one line, also in multi-line style
  pub directive_in_lines : IsShown (with_multiline default_style true)
      (codes "directive @d(\"x\" a: Int = 1, b: [B!]) repeatable on FIELD | QUERY")
      (codes "directive @d(\"x\" a: Int = 1, b: [B!]) repeatable on FIELD | QUERY\n")
  pub enum_layout : Shows (codes "\"\"\"d\"\"\" enum E { \"v\" A @x B }")
      (codes "\"d\"\nenum E {\n  \"v\" A @x\n  B\n}\n")
  pub union_layout : Shows (codes "union U @d = | A | B") (codes "union U @d = A | B\n")
  -- operations are sorted: query, mutation, subscription
  pub schema_layout : Shows (codes "schema @x { mutation: M query: Q }")
      (codes "schema @x {\n  query: Q\n  mutation: M\n}\n")
  pub empty_schema_layout : Shows (codes "schema {}") (codes "schema {\n}\n")
  -- a description is above its schema
  pub described_schema_layout : Shows (codes "\"d\" schema { query: Q }") (codes "\"d\"\nschema {\n  query: Q\n}\n")
  pub schema_extension_layout : Shows (codes "extend schema @a { mutation: M }")
      (codes "extend schema @a {\n  mutation: M\n}\n")
  -- an extension of the schema without operations has no braces
  pub directives_alone : Shows (codes "extend schema @a") (codes "extend schema @a\n")
  pub empty_schema_extension_layout : layout default_style (schema_extension empty_schema ∷ [])
      ≡ codes "extend schema\n"
  -- an extension of the schema that adds nothing is not printable
  pub empty_schema_extension_is_unprintable : IsPrintable (schema_extension empty_schema ∷ []) → ⊥
  -- only one level is open, so no indentation is too wide
  pub empty_schema_fits : IsTooWide (with_indent default_style 4294967295) (schema None empty_schema ∷ []) → ⊥
  pub input_layout : Shows (codes "input I { a: Int = 1 @d }") (codes "input I {\n  a: Int = 1 @d\n}\n")
  pub extension_layout : Shows (codes "extend type A implements B") (codes "extend type A implements B\n")
  -- a description in block form, on the line of a value
  pub block_description : layout default_style (first_type (codes "E")
      (enum (record { position = at 1 1; description = Some (codes "x\ny"); name = codes "A"; directives = [] } ∷ [])))
      ≡ codes "enum E {\n  \"\"\"\n    x\n    y\n  \"\"\" A\n}\n"

-- ---- where inputs are rejected

-- the first error has this reason and this index
abbrev pub IsLeastAt : List ℕ → Reason → ℕ → Type 0
IsLeastAt text why n = (items : List Item) × HasItems text items
    × IsLeast schema_grammar (Sym document_symbol) (numbered (split items)) why n

-- where some small inputs are rejected
pub record WorkedErrors : Type 0 where
  -- an unknown operation, at the closing brace
  pub unknown_root : IsLeastAt (codes "schema { foo: A }") (RejectedNode schema_symbol) 6
  -- a duplicate operation
  pub duplicate_root : IsLeastAt (codes "schema { query: A query: B foo: C }") (RejectedNode schema_symbol) 12
  -- a duplicate operation without the closing brace: the end is the error
  pub open_schema : IsLeastAt (codes "schema { query: A query: B") Unexpected 9
  -- an error after a rejected schema is ignored
  pub later_fault : IsLeastAt (codes "schema { foo: A } scalar A !") (RejectedNode schema_symbol) 6
  -- an extension that adds nothing, before the invalid token after it
  pub bare_extension : IsLeastAt (codes "extend scalar A ;") (RejectedNode extension_symbol) 3
  -- the same for an extension of the schema
  pub bare_schema_extension : IsLeastAt (codes "extend schema ;") (RejectedNode extension_symbol) 2
  -- the same before a schema
  pub schema_twice : IsLeastAt (codes "extend schema schema { query: A }") (RejectedNode extension_symbol) 2
  -- the braces of an extension must hold an operation
  pub no_operations : IsLeastAt (codes "extend schema {}") Unexpected 4
  -- the operations of an extension are checked like those of a schema
  pub duplicate_extension : IsLeastAt (codes "extend schema { query: A query: B }") (RejectedNode schema_extension_symbol) 10
  -- a schema with a description is rejected like one without
  pub unknown_described : IsLeastAt (codes "\"d\" schema { foo: A }") (RejectedNode schema_symbol) 7
  -- interfaces alone do not extend an interface
  pub interface_alone : IsLeastAt (codes "extend interface A implements B") (RejectedNode extension_symbol) 5
  -- an extension with an incomplete directive
  pub open_extension : IsLeastAt (codes "extend scalar A @") Unexpected 5
  -- interfaces without `&` between them
  pub no_punctuator : IsLeastAt (codes "type A implements B C") Unexpected 5
  -- an extension must not have a description
  pub described_extension : IsLeastAt (codes "\"d\" extend type A") Unexpected 2
  -- braces must hold a field
  pub no_fields : IsLeastAt (codes "extend type A { }") Unexpected 5
  -- a default value must not hold a variable
  pub variable_default : IsLeastAt (codes "directive @a(x: Int = $y) on FIELD") Unexpected 9
  -- a directive must have a location
  pub no_location : IsLeastAt (codes "directive @a on") Unexpected 5
  -- the location must be one of the 19
  pub other_location : IsLeastAt (codes "directive @a on FOO") (Improper location_class) 5
  -- a document must have a definition
  pub nothing : IsLeastAt (codes "") Unexpected 1
