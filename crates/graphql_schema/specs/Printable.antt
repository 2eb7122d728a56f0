-- Printable documents: those whose layouts parse back to them, if their values satisfy the invariants of their types.
use Rattle.std.specs.Prelude.{◌≡◌, ℕ, ◌≤◌, true}
use Rattle.std.specs.List.{AllByRecursion}
use Rattle.std.specs.Option.{IfSome}
use Rattle.graphql_core.specs.{IsName, IsPrintableDirective, IsPrintableType, IsPrintableDefault, most, in_brackets}
use Rattle.graphql_core.specs.{has_any}
use Rattle.graphql_schema.specs.Tree.{InputValueTree, FieldTree, EnumValueTree, SchemaTree, PartsTree, scalar, object}
use Rattle.graphql_schema.specs.Tree.{interface, union, enum, input, BodyTree, DefinitionTree, schema, type_definition}
use Rattle.graphql_schema.specs.Tree.{extension, schema_extension, directive, DocumentTree, adds_something}
use Rattle.graphql_schema.specs.Tree.{adds_to_schema}
use Rattle.graphql_schema.specs.TreeDepth.{definition_depth}

-- ---- names, types and values

abbrev pub IsPrintableInputValue : InputValueTree → Type 0
IsPrintableInputValue v =
    IsName v.name × IsPrintableType v.value_type × IfSome v.default_value IsPrintableDefault
    × AllByRecursion IsPrintableDirective v.directives

abbrev pub IsPrintableField : FieldTree → Type 0
IsPrintableField f =
    IsName f.name × AllByRecursion IsPrintableInputValue f.arguments × IsPrintableType f.field_type
    × AllByRecursion IsPrintableDirective f.directives

abbrev pub IsPrintableEnumValue : EnumValueTree → Type 0
IsPrintableEnumValue v = IsName v.name × AllByRecursion IsPrintableDirective v.directives

abbrev pub IsPrintableSchema : SchemaTree → Type 0
IsPrintableSchema s =
    AllByRecursion IsPrintableDirective s.directives × IfSome s.query IsName × IfSome s.mutation IsName
    × IfSome s.subscription IsName

abbrev pub ArePrintableParts : PartsTree → Type 0
ArePrintableParts scalar = Unit {0}
ArePrintableParts (object is fs) = AllByRecursion IsName is × AllByRecursion IsPrintableField fs
ArePrintableParts (interface is fs) = AllByRecursion IsName is × AllByRecursion IsPrintableField fs
ArePrintableParts (union ts) = AllByRecursion IsName ts
ArePrintableParts (enum vs) = AllByRecursion IsPrintableEnumValue vs
ArePrintableParts (input fs) = AllByRecursion IsPrintableInputValue fs

abbrev pub IsPrintableBody : BodyTree → Type 0
IsPrintableBody b = IsName b.name × AllByRecursion IsPrintableDirective b.directives × ArePrintableParts b.parts

abbrev pub IsPrintableDefinition : DefinitionTree → Type 0
IsPrintableDefinition (schema d s) = IsPrintableSchema s
IsPrintableDefinition (type_definition d b) = IsPrintableBody b
IsPrintableDefinition (extension b) = IsPrintableBody b
IsPrintableDefinition (schema_extension s) = IsPrintableSchema s
IsPrintableDefinition (directive d) = IsName d.name × AllByRecursion IsPrintableInputValue d.arguments

-- ---- extensions and locations

-- an extension adds something, and a directive has a location
abbrev pub IsWholeDefinition : DefinitionTree → Type 0
IsWholeDefinition (extension b) = adds_something b ≡ true
IsWholeDefinition (schema_extension s) = adds_to_schema s ≡ true
IsWholeDefinition (directive d) = has_any d.locations ≡ true
IsWholeDefinition _ = Unit {0}

-- ---- brackets that are open at once

abbrev pub definition_brackets : DefinitionTree → ℕ
definition_brackets = definition_depth in_brackets

-- ---- documents

-- the document is printable: if it also satisfies `IsWellFormedDocument`, its layout parses back to it, ignoring positions
pub record IsPrintable (d : DocumentTree) : Type 0 where
  pub definition : has_any d ≡ true
  -- names, types and values are printable
  pub names : AllByRecursion IsPrintableDefinition d
  pub definitions : AllByRecursion IsWholeDefinition d
  pub depth : most definition_brackets d ≤ 50
