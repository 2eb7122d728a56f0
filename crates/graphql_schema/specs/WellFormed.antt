-- The invariants of values, which hold in every document that a program can build.
use Rattle.std.specs.List.{AllByRecursion}
use Rattle.std.specs.Option.{IfSome}
use Rattle.graphql_core.specs.{IsWellFormed, AreWellFormedDirectives}
use Rattle.graphql_schema.specs.Tree.{InputValueTree, FieldTree, EnumValueTree, PartsTree, scalar, object, interface}
use Rattle.graphql_schema.specs.Tree.{union, enum, input, BodyTree, DefinitionTree, schema, type_definition, extension}
use Rattle.graphql_schema.specs.Tree.{schema_extension, directive, DocumentTree}

abbrev pub IsWellFormedInputValue : InputValueTree → Type 0
IsWellFormedInputValue v = IfSome v.default_value IsWellFormed × AreWellFormedDirectives v.directives

abbrev pub IsWellFormedField : FieldTree → Type 0
IsWellFormedField f = AllByRecursion IsWellFormedInputValue f.arguments × AreWellFormedDirectives f.directives

abbrev pub IsWellFormedEnumValue : EnumValueTree → Type 0
IsWellFormedEnumValue v = AreWellFormedDirectives v.directives

abbrev pub AreWellFormedParts : PartsTree → Type 0
AreWellFormedParts scalar = Unit {0}
AreWellFormedParts (object is fs) = AllByRecursion IsWellFormedField fs
AreWellFormedParts (interface is fs) = AllByRecursion IsWellFormedField fs
AreWellFormedParts (union ts) = Unit {0}
AreWellFormedParts (enum vs) = AllByRecursion IsWellFormedEnumValue vs
AreWellFormedParts (input fs) = AllByRecursion IsWellFormedInputValue fs

abbrev pub IsWellFormedBody : BodyTree → Type 0
IsWellFormedBody b = AreWellFormedDirectives b.directives × AreWellFormedParts b.parts

abbrev pub IsWellFormedDefinition : DefinitionTree → Type 0
IsWellFormedDefinition (schema d s) = AreWellFormedDirectives s.directives
IsWellFormedDefinition (type_definition d b) = IsWellFormedBody b
IsWellFormedDefinition (extension b) = IsWellFormedBody b
IsWellFormedDefinition (schema_extension s) = AreWellFormedDirectives s.directives
IsWellFormedDefinition (directive d) = AllByRecursion IsWellFormedInputValue d.arguments

abbrev pub IsWellFormedDocument : DocumentTree → Type 0
IsWellFormedDocument = AllByRecursion IsWellFormedDefinition
