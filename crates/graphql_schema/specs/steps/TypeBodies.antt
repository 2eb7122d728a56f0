-- The model of a type that was read, and the rules of types by their kinds.
use Rattle.std.specs.Prelude.{ℕ, List, Bool, true, false, map}
use Rattle.graphql_core.specs.{Expr, Empty, Sym, optional, ParseTree, enclosed_of, optional_list_of}
use Rattle.graphql_schema.specs.Grammar.{scalar_symbol, object_symbol, interface_symbol, union_symbol, enum_symbol}
use Rattle.graphql_schema.specs.Grammar.{input_symbol, implements_symbol, fields_symbol, members_symbol}
use Rattle.graphql_schema.specs.Grammar.{enum_values_symbol, input_fields_symbol}
use Rattle.graphql_schema.specs.Meanings.{field_of, enum_value_of, input_value_of, members_of, scalar_of, object_of}
use Rattle.graphql_schema.specs.Meanings.{interface_of, union_of, enum_of, input_of}
use Rattle.graphql_schema.specs.Tree.{PartsTree, scalar, object, interface, union, enum, input, BodyTree}
use Rattle.graphql_schema.specs.Views.{body_view, object_parts, interface_parts, enum_parts, input_parts}
use Rattle.graphql_schema.specs.declared.read.keyword.TypeKind.{TypeKind}
use Rattle.graphql_schema.specs.declared.read.type_body.TypeBody.{TypeBody}
use Rattle.graphql_schema.specs.declared.read.type_body.TypeParts.{TypeParts}
use Rattle.graphql_schema.specs.declared.read.keyword.TypeKind.TheVariants as kinds
use Rattle.graphql_schema.specs.declared.read.type_body.TypeParts.TheVariants as parts

module _ {N T : Type 0} (bytes : T → List ℕ) where
  abbrev pub parts_view : TypeParts N T → PartsTree
  parts_view parts.Scalar = scalar
  parts_view (parts.Object is fs) = object_parts bytes is.items fs.items
  parts_view (parts.Interface is fs) = interface_parts bytes is.items fs.items
  parts_view (parts.Union ts) = union (map bytes ts.items)
  parts_view (parts.Enum vs) = enum_parts bytes vs.items
  parts_view (parts.InputObject fs) = input_parts bytes fs.items

  abbrev pub type_body_view : TypeBody N T → BodyTree
  type_body_view b = body_view bytes b.position b.name b.directives.items (parts_view b.parts)

-- ---- by the kind of the type

abbrev pub symbol_of : TypeKind → ℕ
symbol_of kinds.Scalar = scalar_symbol
symbol_of kinds.Object = object_symbol
symbol_of kinds.Interface = interface_symbol
symbol_of kinds.Union = union_symbol
symbol_of kinds.Enum = enum_symbol
symbol_of kinds.InputObject = input_symbol

abbrev pub means : TypeKind → ParseTree → BodyTree
means kinds.Scalar = scalar_of
means kinds.Object = object_of
means kinds.Interface = interface_of
means kinds.Union = union_of
means kinds.Enum = enum_of
means kinds.InputObject = input_of

-- the interfaces before the directives, if the kind can have them
abbrev pub interfaces_rule : Bool → Expr
interfaces_rule false = Empty
interfaces_rule true = optional (Sym implements_symbol)

-- the parts after the directives
abbrev pub parts_rule : TypeKind → Expr
parts_rule kinds.Scalar = Empty
parts_rule kinds.Object = optional (Sym fields_symbol)
parts_rule kinds.Interface = optional (Sym fields_symbol)
parts_rule kinds.Union = optional (Sym members_symbol)
parts_rule kinds.Enum = optional (Sym enum_values_symbol)
parts_rule kinds.InputObject = optional (Sym input_fields_symbol)

abbrev pub parts_of : TypeKind → List (List ℕ) → ParseTree → PartsTree
parts_of kinds.Scalar is x = scalar
parts_of kinds.Object is x = object is (optional_list_of (enclosed_of field_of) x)
parts_of kinds.Interface is x = interface is (optional_list_of (enclosed_of field_of) x)
parts_of kinds.Union is x = union (optional_list_of members_of x)
parts_of kinds.Enum is x = enum (optional_list_of (enclosed_of enum_value_of) x)
parts_of kinds.InputObject is x = input (optional_list_of (enclosed_of input_value_of) x)
