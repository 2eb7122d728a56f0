-- Layouts of schemas do not depend on positions.
use Rattle.std.proofs.Common.{◌≡◌, ◌++◌, ap, ap₂, refl, codes, ℕ, List, [], ◌∷◌, map}
use Rattle.graphql_core.specs.{name_part, text_of, StyleOptions, Part, gap, in_braces}
use Rattle.std.specs.List.{flat_map}
use Rattle.graphql_core.proofs.{directives_alike, separated_alike, in_parentheses_alike}
use Rattle.graphql_schema.specs.{InputValueTree, FieldTree, EnumValueTree, PartsTree, scalar, object, interface, union, enum, input, BodyTree, DefinitionTree}
use Rattle.graphql_schema.specs.{schema, type_definition, extension, schema_extension, directive, DocumentTree, erase_input_value, erase_field}
use Rattle.graphql_schema.specs.{erase_enum_value, erase_parts, erase_body, erase_definition, erase, block_layout, description_layout, input_value_layout}
use Rattle.graphql_schema.specs.{arguments_layout, input_field_layout, field_layout, enum_value_layout, keyword, interfaces, parts_layout, body_layout}
use Rattle.graphql_schema.specs.{definition_layout, layout}

-- ---- parts in braces

module _ {A : Type 0} (erased : A → A) (lines : A → List Part) (same : (x : A) → lines (erased x) ≡ lines x) where
  lines_alike : (xs : List A) → flat_map lines (map erased xs) ≡ flat_map lines xs
  lines_alike [] = refl
  lines_alike (x ∷ xs) = ap₂ (λ a b. a ++ b) (same x) (lines_alike xs)

  block_alike : (margin : ℕ) (xs : List A) → block_layout margin lines (map erased xs) ≡ block_layout margin lines xs
  block_alike margin [] = refl
  block_alike margin (x ∷ xs) = ap (λ r. gap (codes " ") ++ in_braces margin r) (lines_alike (x ∷ xs))

-- ---- parts of definitions

input_value_alike : (style : StyleOptions) (margin : ℕ) (v : InputValueTree)
    → input_value_layout style margin (erase_input_value v) ≡ input_value_layout style margin v
input_value_alike style margin v = rw (directives_alike style margin v.directives) refl

arguments_alike : (style : StyleOptions) (margin : ℕ) (vs : List InputValueTree)
    → arguments_layout style margin (map erase_input_value vs) ≡ arguments_layout style margin vs
arguments_alike style margin = in_parentheses_alike erase_input_value (input_value_layout style margin) (input_value_alike style margin)

input_field_alike : (style : StyleOptions) (margin : ℕ) (v : InputValueTree)
    → input_field_layout style margin (erase_input_value v) ≡ input_field_layout style margin v
input_field_alike style margin v = rw (directives_alike style margin v.directives) refl

field_alike : (style : StyleOptions) (margin : ℕ) (f : FieldTree) → field_layout style margin (erase_field f) ≡ field_layout style margin f
field_alike style margin f = rw (arguments_alike style margin f.arguments, directives_alike style margin f.directives) refl

enum_value_alike : (style : StyleOptions) (margin : ℕ) (v : EnumValueTree)
    → enum_value_layout style margin (erase_enum_value v) ≡ enum_value_layout style margin v
enum_value_alike style margin v = rw (directives_alike style margin v.directives) refl

-- ---- definitions

parts_alike : (style : StyleOptions) (p : PartsTree)
    → (keyword (erase_parts p) ≡ keyword p) × (interfaces (erase_parts p) ≡ interfaces p) × (parts_layout style (erase_parts p) ≡ parts_layout style p)
parts_alike style scalar = (refl, refl, refl)
parts_alike style (object is fs) = (refl, refl, block_alike erase_field (field_layout style style.indent) (field_alike style style.indent) 0 fs)
parts_alike style (interface is fs) = (refl, refl, block_alike erase_field (field_layout style style.indent) (field_alike style style.indent) 0 fs)
parts_alike style (union ts) = (refl, refl, refl)
parts_alike style (enum vs) =
    (refl, refl, block_alike erase_enum_value (enum_value_layout style style.indent) (enum_value_alike style style.indent) 0 vs)
parts_alike style (input fs) =
    (refl, refl, block_alike erase_input_value (input_field_layout style style.indent) (input_field_alike style style.indent) 0 fs)

body_alike : (style : StyleOptions) (b : BodyTree) → body_layout style (erase_body b) ≡ body_layout style b
body_alike style b =
    let (word, names, parts) = parts_alike style b.parts in
    rw (word, names, directives_alike style 0 b.directives, parts) refl

definition_alike : (style : StyleOptions) (d : DefinitionTree) → definition_layout style (erase_definition d) ≡ definition_layout style d
definition_alike style (schema d s) = rw (directives_alike style 0 s.directives) refl
definition_alike style (type_definition d b) = ap (λ r. description_layout style 0 d ++ r) (body_alike style b)
definition_alike style (extension b) = ap (λ r. name_part (codes "extend") ++ (gap (codes " ") ++ r)) (body_alike style b)
definition_alike style (schema_extension s) = rw (directives_alike style 0 s.directives) refl
definition_alike style (directive d) = rw (arguments_alike style 0 d.arguments) refl

-- ---- documents

pub layout_alike : (style : StyleOptions) (d : DocumentTree) → layout style (erase d) ≡ layout style d
layout_alike style d = ap text_of (separated_alike erase_definition (definition_layout style) (definition_alike style) d)
