-- Brackets of the parts of a schema document.
use Rattle.std.specs.Prelude.{ℕ}
use Rattle.graphql_core.specs.{in_brackets}
use Rattle.graphql_schema.specs.Tree.{InputValueTree, FieldTree, EnumValueTree, PartsTree, BodyTree}
use Rattle.graphql_schema.specs.TreeDepth.{input_value_depth, field_depth, enum_value_depth, parts_depth, body_depth}

abbrev pub input_value_brackets : InputValueTree → ℕ
input_value_brackets = input_value_depth in_brackets

abbrev pub field_brackets : FieldTree → ℕ
field_brackets = field_depth in_brackets

abbrev pub enum_value_brackets : EnumValueTree → ℕ
enum_value_brackets = enum_value_depth in_brackets

abbrev pub parts_brackets : PartsTree → ℕ
parts_brackets = parts_depth in_brackets

abbrev pub body_brackets : BodyTree → ℕ
body_brackets = body_depth in_brackets
