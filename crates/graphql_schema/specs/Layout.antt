-- The layout of a document in a style. A line begins with a margin, a number of spaces.
use Rattle.std.specs.Prelude.{ℕ, Bool, true, false, cond, List, [], ◌∷◌, ◌++◌, Option, Some, None, codes, map}
use Rattle.graphql_core.specs.{name_part, punctuator_part, text_of, StyleOptions, spaces, default_style, Part, gap}
use Rattle.graphql_core.specs.{string_layout, type_layout, directives_layout, in_levels, in_braces, separated}
use Rattle.graphql_core.specs.{in_parentheses, default_layout, most}
use Rattle.std.specs.List.{flat_map}
use Rattle.graphql_schema.specs.TreeDepth.{input_value_depth, field_depth, enum_value_depth, parts_depth, body_depth}
use Rattle.graphql_schema.specs.TreeDepth.{definition_depth}
use Rattle.graphql_schema.specs.declared.location.DirectiveLocation.{DirectiveLocation}
use Rattle.graphql_schema.specs.Locations.{word_of}
use Rattle.graphql_schema.specs.Tree.{InputValueTree, FieldTree, EnumValueTree, SchemaTree, PartsTree, scalar, object}
use Rattle.graphql_schema.specs.Tree.{interface, union, enum, input, BodyTree, DirectiveDefinitionTree, DefinitionTree}
use Rattle.graphql_schema.specs.Tree.{schema, type_definition, extension, schema_extension, directive, DocumentTree}
use Rattle.graphql_schema.specs.Tree.{has_operation}
use Rattle.graphql_core.specs.layouts.ValueLayout as values

-- ---- descriptions

-- above what it describes
abbrev pub description_layout : StyleOptions → ℕ → Option (List ℕ) → List Part
description_layout style margin None = []
description_layout style margin (Some text) =
    gap (spaces margin) ++ (string_layout style margin text ++ gap (codes "\n"))

-- on the line of what it describes
abbrev pub inline_layout : StyleOptions → ℕ → Option (List ℕ) → List Part
inline_layout style margin None = []
inline_layout style margin (Some text) = string_layout style margin text ++ gap (codes " ")

-- ---- lists

-- a punctuator between two spaces
abbrev pub between : List ℕ → List Part
between s = gap (codes " ") ++ (punctuator_part s ++ gap (codes " "))

abbrev pub later_names : List ℕ → List (List ℕ) → List Part
later_names s [] = []
later_names s (n ∷ ns) = between s ++ (name_part n ++ later_names s ns)

-- names separated by a punctuator
abbrev pub joined_names : List ℕ → List (List ℕ) → List Part
joined_names s [] = []
joined_names s (n ∷ ns) = name_part n ++ later_names s ns

abbrev pub interfaces_layout : List (List ℕ) → List Part
interfaces_layout [] = []
interfaces_layout (n ∷ ns) =
    gap (codes " ") ++ (name_part (codes "implements") ++ (gap (codes " ") ++ joined_names (codes "&") (n ∷ ns)))

abbrev pub members_layout : List (List ℕ) → List Part
members_layout [] = []
members_layout (n ∷ ns) = between (codes "=") ++ joined_names (codes "|") (n ∷ ns)

abbrev pub locations_layout : List DirectiveLocation → List Part
locations_layout [] = []
locations_layout (l ∷ ls) =
    gap (codes " ") ++ (name_part (codes "on") ++ (gap (codes " ") ++ joined_names (codes "|") (map word_of (l ∷ ls))))

-- the lines of some parts in braces; without parts only the end of the line
abbrev pub block_layout : {A : Type 0} → ℕ → (A → List Part) → List A → List Part
block_layout margin lines [] = gap (codes "\n")
block_layout margin lines (x ∷ xs) = gap (codes " ") ++ in_braces margin (flat_map lines (x ∷ xs))

-- ---- arguments, fields and values

abbrev pub input_value_layout : StyleOptions → ℕ → InputValueTree → List Part
input_value_layout style margin v =
    inline_layout style margin v.description ++ (name_part v.name ++ (punctuator_part (codes ":") ++ (gap (codes " ")
    ++ (type_layout v.value_type
    ++ (default_layout style margin v.default_value ++ directives_layout style margin v.directives)))))

abbrev pub arguments_layout : StyleOptions → ℕ → List InputValueTree → List Part
arguments_layout style margin = in_parentheses (input_value_layout style margin)

-- a field of an input object, at the margin and with a line end
abbrev pub input_field_layout : StyleOptions → ℕ → InputValueTree → List Part
input_field_layout style margin v = gap (spaces margin) ++ (input_value_layout style margin v ++ gap (codes "\n"))

abbrev pub field_layout : StyleOptions → ℕ → FieldTree → List Part
field_layout style margin f =
    description_layout style margin f.description
    ++ (gap (spaces margin) ++ (name_part f.name ++ (arguments_layout style margin f.arguments
    ++ (punctuator_part (codes ":") ++ (gap (codes " ")
    ++ (type_layout f.field_type ++ (directives_layout style margin f.directives ++ gap (codes "\n"))))))))

abbrev pub enum_value_layout : StyleOptions → ℕ → EnumValueTree → List Part
enum_value_layout style margin v =
    gap (spaces margin) ++ (inline_layout style margin v.description
    ++ (name_part v.name ++ (directives_layout style margin v.directives ++ gap (codes "\n"))))

-- ---- definitions, which have no margin

-- the line of an operation, if the operation has a type
abbrev pub root_layout : ℕ → List ℕ → Option (List ℕ) → List Part
root_layout margin word None = []
root_layout margin word (Some n) = gap (spaces margin)
    ++ (name_part word ++ (punctuator_part (codes ":") ++ (gap (codes " ") ++ (name_part n ++ gap (codes "\n")))))

-- the lines of the operations, in braces
abbrev pub roots_layout : StyleOptions → (query mutation subscription : Option (List ℕ)) → List Part
roots_layout style q m s =
    gap (codes " ") ++ in_braces 0 (root_layout style.indent (codes "query") q
    ++ (root_layout style.indent (codes "mutation") m ++ root_layout style.indent (codes "subscription") s))

-- a schema always has braces
abbrev pub schema_layout : StyleOptions → SchemaTree → List Part
schema_layout style s = name_part (codes "schema")
    ++ (directives_layout style 0 s.directives ++ roots_layout style s.query s.mutation s.subscription)

-- an extension of the schema has braces only if it names an operation
abbrev pub schema_extension_layout : StyleOptions → SchemaTree → List Part
schema_extension_layout style s =
    name_part (codes "extend")
    ++ (gap (codes " ") ++ (name_part (codes "schema") ++ (directives_layout style 0 s.directives
    ++ cond (has_operation s) (roots_layout style s.query s.mutation s.subscription) (gap (codes "\n")))))

-- the keyword of a type
abbrev pub keyword : PartsTree → List ℕ
keyword scalar = codes "scalar"
keyword (object is fs) = codes "type"
keyword (interface is fs) = codes "interface"
keyword (union ts) = codes "union"
keyword (enum vs) = codes "enum"
keyword (input fs) = codes "input"

-- the interfaces, which come before the directives; empty for a kind that cannot have them
abbrev pub interfaces : PartsTree → List (List ℕ)
interfaces (object is fs) = is
interfaces (interface is fs) = is
interfaces _ = []

-- the other parts, which come after the directives
abbrev pub parts_layout : StyleOptions → PartsTree → List Part
parts_layout style scalar = gap (codes "\n")
parts_layout style (object is fs) = block_layout 0 (field_layout style style.indent) fs
parts_layout style (interface is fs) = block_layout 0 (field_layout style style.indent) fs
parts_layout style (union ts) = members_layout ts ++ gap (codes "\n")
parts_layout style (enum vs) = block_layout 0 (enum_value_layout style style.indent) vs
parts_layout style (input fs) = block_layout 0 (input_field_layout style style.indent) fs

abbrev pub body_layout : StyleOptions → BodyTree → List Part
body_layout style b =
    name_part (keyword b.parts) ++ (gap (codes " ") ++ (name_part b.name ++ (interfaces_layout (interfaces b.parts)
    ++ (directives_layout style 0 b.directives ++ parts_layout style b.parts))))

abbrev pub repeatable_layout : Bool → List Part
repeatable_layout false = []
repeatable_layout true = gap (codes " ") ++ name_part (codes "repeatable")

abbrev pub directive_definition_layout : StyleOptions → DirectiveDefinitionTree → List Part
directive_definition_layout style d =
    description_layout style 0 d.description
    ++ (name_part (codes "directive") ++ (gap (codes " ") ++ (punctuator_part (codes "@") ++ (name_part d.name
    ++ (arguments_layout style 0 d.arguments
    ++ (repeatable_layout d.repeatable ++ (locations_layout d.locations ++ gap (codes "\n"))))))))

abbrev pub definition_layout : StyleOptions → DefinitionTree → List Part
definition_layout style (schema d s) = description_layout style 0 d ++ schema_layout style s
definition_layout style (type_definition d b) = description_layout style 0 d ++ body_layout style b
definition_layout style (extension b) = name_part (codes "extend") ++ (gap (codes " ") ++ body_layout style b)
definition_layout style (schema_extension s) = schema_extension_layout style s
definition_layout style (directive d) = directive_definition_layout style d

-- what `Display` writes for a definition
abbrev pub shown : DefinitionTree → Option (List ℕ)
shown d = Some (text_of (definition_layout default_style d))

-- the definitions, separated by empty lines
abbrev pub document_layout : StyleOptions → DocumentTree → List Part
document_layout style = separated (definition_layout style)

-- the formatted document
abbrev pub layout : StyleOptions → DocumentTree → List ℕ
layout style d = text_of (document_layout style d)

-- ---- levels that are open at once

abbrev pub input_value_levels : StyleOptions → InputValueTree → ℕ
input_value_levels style = input_value_depth (in_levels style)

abbrev pub field_levels : StyleOptions → FieldTree → ℕ
field_levels style = field_depth (in_levels style)

abbrev pub enum_value_levels : StyleOptions → EnumValueTree → ℕ
enum_value_levels style = enum_value_depth (in_levels style)

abbrev pub parts_levels : StyleOptions → PartsTree → ℕ
parts_levels style = parts_depth (in_levels style)

abbrev pub body_levels : StyleOptions → BodyTree → ℕ
body_levels style = body_depth (in_levels style)

abbrev pub definition_levels : StyleOptions → DefinitionTree → ℕ
definition_levels style = definition_depth (in_levels style)

abbrev pub levels : StyleOptions → DocumentTree → ℕ
levels style d = most (definition_levels style) d

-- the levels open at once take more than `u32::MAX` spaces, even if no line is in the deepest of them
abbrev pub IsTooWide : StyleOptions → DocumentTree → Type 0
IsTooWide style d = values.IsTooWide style (levels style d)
