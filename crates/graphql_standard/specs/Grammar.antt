-- The grammar of documents (GraphQL specification, September 2025), with a comment for each section of it.
-- One token of lookahead decides: alternatives that begin alike are factored, and lists of definitions are written so
-- that `[lookahead != {]` holds by itself. Document.antt has the definitions as the specification writes them.
use Rattle.std.specs.Prelude.{ℕ, Bool, true, List, [], ◌∷◌, codes}
use Rattle.graphql_core.specs.{Token, Class, Except, Expr, One, Then, Either, Many, Sym, Grammar, is_listed}
use Rattle.graphql_core.specs.{with_tables, optional, some_of, any, name, word, punctuator}
use Rattle.graphql_core.specs.{location_class}
use Rattle.graphql_core.specs.values.Grammar.{enum_class}
use Rattle.graphql_core.specs.declared.tokenizer.token.Kind.TheVariants.{IntValue, FloatValue, StringValue}
use Rattle.graphql_core.specs.declared.tokenizer.token.Kind.TheVariants.{BlockString}
use Rattle.graphql_standard.specs.Symbols.{fragment_name_class}
use Rattle.graphql_standard.specs.Symbols as symbol
use Rattle.graphql_standard.specs.ParseTrees.{samples}
use Rattle.graphql_standard.specs.Tables.{tables}

-- ---- Document

-- Document = Definitions
abbrev pub document_rule : Expr
document_rule = Sym symbol.definitions

-- `[lookahead != {]`: a definition without braces at its end is never followed by a selection set. So what comes after
-- such a definition is OtherDefinitions, and the braces are tested first.
-- Definitions = SelectionSet Definitions? | OtherDefinitions
abbrev pub definitions_rule : Expr
definitions_rule =
    Either (Then (Sym symbol.selection_set) (optional (Sym symbol.definitions))) (Sym symbol.other_definitions)

-- OtherDefinitions = "extend" ExtensionThenDefinitions | Description? DescribedDefinitions
abbrev pub other_definitions_rule : Expr
other_definitions_rule =
    Either (Then (word (codes "extend")) (Sym symbol.extension_then_definitions))
    (Then (optional (Sym symbol.description)) (Sym symbol.described_definitions))

-- DescribedDefinitions = OperationDefinition Definitions? | FragmentDefinition Definitions? | SchemaDefinition
--   Definitions? | ScalarTypeDefinition Definitions? | ObjectTypeHead FieldsThenDefinitions | InterfaceTypeHead
--   FieldsThenDefinitions | UnionTypeDefinition Definitions? | EnumTypeHead EnumValuesThenDefinitions |
--   InputObjectTypeHead InputFieldsThenDefinitions | DirectiveDefinition Definitions?
abbrev pub described_definitions_rule : Expr
described_definitions_rule =
    Either (Then (Sym symbol.operation_definition) (optional (Sym symbol.definitions)))
    (Either (Then (Sym symbol.fragment_definition) (optional (Sym symbol.definitions)))
    (Either (Then (Sym symbol.schema_definition) (optional (Sym symbol.definitions)))
    (Either (Then (Sym symbol.scalar_type_definition) (optional (Sym symbol.definitions)))
    (Either (Then (Sym symbol.object_type_head) (Sym symbol.fields_then_definitions))
    (Either (Then (Sym symbol.interface_type_head) (Sym symbol.fields_then_definitions))
    (Either (Then (Sym symbol.union_type_definition) (optional (Sym symbol.definitions)))
    (Either (Then (Sym symbol.enum_type_head) (Sym symbol.enum_values_then_definitions))
    (Either (Then (Sym symbol.input_object_type_head) (Sym symbol.input_fields_then_definitions))
    (Then (Sym symbol.directive_definition) (optional (Sym symbol.definitions)))))))))))

-- ---- Objects, Interfaces

-- FieldsThenDefinitions = FieldsDefinition Definitions? | OtherDefinitions?
abbrev pub fields_then_definitions_rule : Expr
fields_then_definitions_rule =
    Either (Then (Sym symbol.fields_definition) (optional (Sym symbol.definitions)))
    (optional (Sym symbol.other_definitions))

-- ---- Enums

-- EnumValuesThenDefinitions = EnumValuesDefinition Definitions? | OtherDefinitions?
abbrev pub enum_values_then_definitions_rule : Expr
enum_values_then_definitions_rule =
    Either (Then (Sym symbol.enum_values_definition) (optional (Sym symbol.definitions)))
    (optional (Sym symbol.other_definitions))

-- ---- Input Objects

-- InputFieldsThenDefinitions = InputFieldsDefinition Definitions? | OtherDefinitions?
abbrev pub input_fields_then_definitions_rule : Expr
input_fields_then_definitions_rule =
    Either (Then (Sym symbol.input_fields_definition) (optional (Sym symbol.definitions)))
    (optional (Sym symbol.other_definitions))

-- ---- Schema Extension

-- RootOperationTypesThenDefinitions = RootOperationTypes Definitions? | OtherDefinitions?
abbrev pub root_operation_types_then_definitions_rule : Expr
root_operation_types_then_definitions_rule =
    Either (Then (Sym symbol.root_operation_types) (optional (Sym symbol.definitions)))
    (optional (Sym symbol.other_definitions))

-- ---- Type System Extensions

-- ExtensionThenDefinitions = "schema" SchemaExtension | "scalar" Name ConstDirectives Definitions? | "type" Name
--   ObjectExtension | "interface" Name ObjectExtension | "union" Name UnionExtension Definitions? | "enum" Name
--   EnumExtension | "input" Name InputObjectExtension
abbrev pub extension_then_definitions_rule : Expr
extension_then_definitions_rule =
    Either (Then (word (codes "schema")) (Sym symbol.schema_extension))
    (Either (Then (word (codes "scalar")) (Then name (Then (Sym symbol.const_directives)
    (optional (Sym symbol.definitions)))))
    (Either (Then (word (codes "type")) (Then name (Sym symbol.object_extension)))
    (Either (Then (word (codes "interface")) (Then name (Sym symbol.object_extension)))
    (Either (Then (word (codes "union")) (Then name (Then (Sym symbol.union_extension)
    (optional (Sym symbol.definitions)))))
    (Either (Then (word (codes "enum")) (Then name (Sym symbol.enum_extension)))
    (Then (word (codes "input")) (Then name (Sym symbol.input_object_extension))))))))

-- ---- Schema Extension

-- SchemaExtension = ConstDirectives RootOperationTypesThenDefinitions | RootOperationTypes Definitions?
abbrev pub schema_extension_rule : Expr
schema_extension_rule =
    Either (Then (Sym symbol.const_directives) (Sym symbol.root_operation_types_then_definitions))
    (Then (Sym symbol.root_operation_types) (optional (Sym symbol.definitions)))

-- ---- Object Extensions, Interface Extensions

-- ObjectExtension = ImplementsInterfaces ConstDirectives? FieldsThenDefinitions | ConstDirectives
--   FieldsThenDefinitions | FieldsDefinition Definitions?
abbrev pub object_extension_rule : Expr
object_extension_rule =
    Either (Then (Sym symbol.implements_interfaces) (Then (optional (Sym symbol.const_directives))
    (Sym symbol.fields_then_definitions)))
    (Either (Then (Sym symbol.const_directives) (Sym symbol.fields_then_definitions))
    (Then (Sym symbol.fields_definition) (optional (Sym symbol.definitions))))

-- ---- Enum Extensions

-- EnumExtension = ConstDirectives EnumValuesThenDefinitions | EnumValuesDefinition Definitions?
abbrev pub enum_extension_rule : Expr
enum_extension_rule =
    Either (Then (Sym symbol.const_directives) (Sym symbol.enum_values_then_definitions))
    (Then (Sym symbol.enum_values_definition) (optional (Sym symbol.definitions)))

-- ---- Input Object Extensions

-- InputObjectExtension = ConstDirectives InputFieldsThenDefinitions | InputFieldsDefinition Definitions?
abbrev pub input_object_extension_rule : Expr
input_object_extension_rule =
    Either (Then (Sym symbol.const_directives) (Sym symbol.input_fields_then_definitions))
    (Then (Sym symbol.input_fields_definition) (optional (Sym symbol.definitions)))

-- ---- Union Extensions

-- UnionExtension = ConstDirectives UnionMemberTypes? | UnionMemberTypes
abbrev pub union_extension_rule : Expr
union_extension_rule =
    Either (Then (Sym symbol.const_directives) (optional (Sym symbol.union_member_types)))
    (Sym symbol.union_member_types)

-- ---- Descriptions

-- Description = StringValue
abbrev pub description_rule : Expr
description_rule = Sym symbol.string_value

-- ---- Operations

-- OperationDefinition = OperationType Name? VariablesDefinition? Directives? SelectionSet
abbrev pub operation_definition_rule : Expr
operation_definition_rule =
    Then (Sym symbol.operation_type) (Then (optional name) (Then (optional (Sym symbol.variables_definition))
    (Then (optional (Sym symbol.directives)) (Sym symbol.selection_set))))

-- OperationType = "query" | "mutation" | "subscription"
abbrev pub operation_type_rule : Expr
operation_type_rule = Either (word (codes "query")) (Either (word (codes "mutation")) (word (codes "subscription")))

-- ---- Selection Sets

-- SelectionSet = "{" Selection+ "}"
abbrev pub selection_set_rule : Expr
selection_set_rule = Then (punctuator (codes "{")) (Then (some_of (Sym symbol.selection)) (punctuator (codes "}")))

-- Selection = Field | "..." Fragment
abbrev pub selection_rule : Expr
selection_rule = Either (Sym symbol.field) (Then (punctuator (codes "...")) (Sym symbol.fragment))

-- ---- Fields, Field Alias

-- Field = Name AliasedName? Arguments? Directives? SelectionSet?
abbrev pub field_rule : Expr
field_rule =
    Then name (Then (optional (Sym symbol.aliased_name)) (Then (optional (Sym symbol.arguments))
    (Then (optional (Sym symbol.directives)) (optional (Sym symbol.selection_set)))))

-- AliasedName = ":" Name
abbrev pub aliased_name_rule : Expr
aliased_name_rule = Then (punctuator (codes ":")) name

-- ---- Arguments

-- Arguments = "(" Argument+ ")"
abbrev pub arguments_rule : Expr
arguments_rule = Then (punctuator (codes "(")) (Then (some_of (Sym symbol.argument)) (punctuator (codes ")")))

-- Argument = Name ":" Value
abbrev pub argument_rule : Expr
argument_rule = Then name (Then (punctuator (codes ":")) (Sym symbol.value))

-- ---- Fragments, Inline Fragments

-- Fragment = FragmentName Directives? | TypeCondition Directives? SelectionSet | Directives? SelectionSet
abbrev pub fragment_rule : Expr
fragment_rule =
    Either (Then (Sym symbol.fragment_name) (optional (Sym symbol.directives)))
    (Either (Then (Sym symbol.type_condition) (Then (optional (Sym symbol.directives)) (Sym symbol.selection_set)))
    (Then (optional (Sym symbol.directives)) (Sym symbol.selection_set)))

-- FragmentDefinition = "fragment" FragmentName TypeCondition Directives? SelectionSet
abbrev pub fragment_definition_rule : Expr
fragment_definition_rule =
    Then (word (codes "fragment")) (Then (Sym symbol.fragment_name) (Then (Sym symbol.type_condition)
    (Then (optional (Sym symbol.directives)) (Sym symbol.selection_set))))

-- FragmentName = Name but not "on"
abbrev pub fragment_name_rule : Expr
fragment_name_rule = One fragment_name_class

-- ---- Type Conditions

-- TypeCondition = "on" NamedType
abbrev pub type_condition_rule : Expr
type_condition_rule = Then (word (codes "on")) (Sym symbol.named_type)

-- ---- Input Values

-- Value = Variable | IntValue | FloatValue | StringValue | BooleanValue | NullValue | EnumValue | ListValue |
--   ObjectValue
abbrev pub value_rule : Expr
value_rule =
    Either (Sym symbol.variable)
    (Either (One (any IntValue))
    (Either (One (any FloatValue))
    (Either (Sym symbol.string_value)
    (Either (Sym symbol.boolean_value)
    (Either (Sym symbol.null_value)
    (Either (Sym symbol.enum_value)
    (Either (Sym symbol.list_value)
    (Sym symbol.object_value))))))))

-- ConstValue = IntValue | FloatValue | StringValue | BooleanValue | NullValue | EnumValue | ConstListValue |
--   ConstObjectValue
abbrev pub const_value_rule : Expr
const_value_rule =
    Either (One (any IntValue))
    (Either (One (any FloatValue))
    (Either (Sym symbol.string_value)
    (Either (Sym symbol.boolean_value)
    (Either (Sym symbol.null_value)
    (Either (Sym symbol.enum_value)
    (Either (Sym symbol.const_list_value)
    (Sym symbol.const_object_value)))))))

-- ---- String Value

-- StringValue = a string in quotes | a block string
abbrev pub string_value_rule : Expr
string_value_rule = Either (One (any StringValue)) (One (any BlockString))

-- ---- Boolean Value

-- BooleanValue = "true" | "false"
abbrev pub boolean_value_rule : Expr
boolean_value_rule = Either (word (codes "true")) (word (codes "false"))

-- ---- Null Value

-- NullValue = "null"
abbrev pub null_value_rule : Expr
null_value_rule = word (codes "null")

-- ---- Enum Value

-- EnumValue = Name but not "true", "false" or "null"
abbrev pub enum_value_rule : Expr
enum_value_rule = One enum_class

-- ---- List Value

-- ListValue = "[" Value* "]"
abbrev pub list_value_rule : Expr
list_value_rule = Then (punctuator (codes "[")) (Then (Many (Sym symbol.value)) (punctuator (codes "]")))

-- ConstListValue = "[" ConstValue* "]"
abbrev pub const_list_value_rule : Expr
const_list_value_rule =
    Then (punctuator (codes "[")) (Then (Many (Sym symbol.const_value)) (punctuator (codes "]")))

-- ---- Input Object Values

-- ObjectValue = "{" ObjectField* "}"
abbrev pub object_value_rule : Expr
object_value_rule = Then (punctuator (codes "{")) (Then (Many (Sym symbol.object_field)) (punctuator (codes "}")))

-- ObjectField = Name ":" Value
abbrev pub object_field_rule : Expr
object_field_rule = Then name (Then (punctuator (codes ":")) (Sym symbol.value))

-- ConstObjectValue = "{" ConstObjectField* "}"
abbrev pub const_object_value_rule : Expr
const_object_value_rule =
    Then (punctuator (codes "{")) (Then (Many (Sym symbol.const_object_field)) (punctuator (codes "}")))

-- ConstObjectField = Name ":" ConstValue
abbrev pub const_object_field_rule : Expr
const_object_field_rule = Then name (Then (punctuator (codes ":")) (Sym symbol.const_value))

-- ---- Variables

-- VariablesDefinition = "(" VariableDefinition+ ")"
abbrev pub variables_definition_rule : Expr
variables_definition_rule =
    Then (punctuator (codes "(")) (Then (some_of (Sym symbol.variable_definition)) (punctuator (codes ")")))

-- VariableDefinition = Description? Variable ":" Type DefaultValue? ConstDirectives?
abbrev pub variable_definition_rule : Expr
variable_definition_rule =
    Then (optional (Sym symbol.description)) (Then (Sym symbol.variable) (Then (punctuator (codes ":"))
    (Then (Sym symbol.type) (Then (optional (Sym symbol.default_value))
    (optional (Sym symbol.const_directives))))))

-- Variable = "$" Name
abbrev pub variable_rule : Expr
variable_rule = Then (punctuator (codes "$")) name

-- DefaultValue = "=" ConstValue
abbrev pub default_value_rule : Expr
default_value_rule = Then (punctuator (codes "=")) (Sym symbol.const_value)

-- ---- Type References

-- Type = NamedType "!"? | ListType "!"?
abbrev pub type_rule : Expr
type_rule =
    Either (Then (Sym symbol.named_type) (optional (punctuator (codes "!"))))
    (Then (Sym symbol.list_type) (optional (punctuator (codes "!"))))

-- NamedType = Name
abbrev pub named_type_rule : Expr
named_type_rule = name

-- ListType = "[" Type "]"
abbrev pub list_type_rule : Expr
list_type_rule = Then (punctuator (codes "[")) (Then (Sym symbol.type) (punctuator (codes "]")))

-- ---- Directives

-- Directives = Directive+
abbrev pub directives_rule : Expr
directives_rule = some_of (Sym symbol.directive)

-- Directive = "@" Name Arguments?
abbrev pub directive_rule : Expr
directive_rule = Then (punctuator (codes "@")) (Then name (optional (Sym symbol.arguments)))

-- ConstDirectives = ConstDirective+
abbrev pub const_directives_rule : Expr
const_directives_rule = some_of (Sym symbol.const_directive)

-- ConstDirective = "@" Name ConstArguments?
abbrev pub const_directive_rule : Expr
const_directive_rule = Then (punctuator (codes "@")) (Then name (optional (Sym symbol.const_arguments)))

-- ConstArguments = "(" ConstArgument+ ")"
abbrev pub const_arguments_rule : Expr
const_arguments_rule =
    Then (punctuator (codes "(")) (Then (some_of (Sym symbol.const_argument)) (punctuator (codes ")")))

-- ConstArgument = Name ":" ConstValue
abbrev pub const_argument_rule : Expr
const_argument_rule = Then name (Then (punctuator (codes ":")) (Sym symbol.const_value))

-- ---- Schema, Root Operation Types

-- SchemaDefinition = "schema" ConstDirectives? RootOperationTypes
abbrev pub schema_definition_rule : Expr
schema_definition_rule =
    Then (word (codes "schema")) (Then (optional (Sym symbol.const_directives)) (Sym symbol.root_operation_types))

-- RootOperationTypes = "{" RootOperationTypeDefinition+ "}"
abbrev pub root_operation_types_rule : Expr
root_operation_types_rule =
    Then (punctuator (codes "{")) (Then (some_of (Sym symbol.root_operation_type_definition))
    (punctuator (codes "}")))

-- RootOperationTypeDefinition = OperationType ":" NamedType
abbrev pub root_operation_type_definition_rule : Expr
root_operation_type_definition_rule =
    Then (Sym symbol.operation_type) (Then (punctuator (codes ":")) (Sym symbol.named_type))

-- ---- Scalars

-- ScalarTypeDefinition = "scalar" Name ConstDirectives?
abbrev pub scalar_type_definition_rule : Expr
scalar_type_definition_rule = Then (word (codes "scalar")) (Then name (optional (Sym symbol.const_directives)))

-- ---- Objects

-- ObjectTypeHead = "type" Name ImplementsInterfaces? ConstDirectives?
abbrev pub object_type_head_rule : Expr
object_type_head_rule =
    Then (word (codes "type")) (Then name (Then (optional (Sym symbol.implements_interfaces))
    (optional (Sym symbol.const_directives))))

-- ImplementsInterfaces = "implements" "&"? NamedType ("&" NamedType)*
abbrev pub implements_interfaces_rule : Expr
implements_interfaces_rule =
    Then (word (codes "implements")) (Then (optional (punctuator (codes "&"))) (Then (Sym symbol.named_type)
    (Many (Then (punctuator (codes "&")) (Sym symbol.named_type)))))

-- FieldsDefinition = "{" FieldDefinition+ "}"
abbrev pub fields_definition_rule : Expr
fields_definition_rule =
    Then (punctuator (codes "{")) (Then (some_of (Sym symbol.field_definition)) (punctuator (codes "}")))

-- FieldDefinition = Description? Name ArgumentsDefinition? ":" Type ConstDirectives?
abbrev pub field_definition_rule : Expr
field_definition_rule =
    Then (optional (Sym symbol.description)) (Then name (Then (optional (Sym symbol.arguments_definition))
    (Then (punctuator (codes ":")) (Then (Sym symbol.type) (optional (Sym symbol.const_directives))))))

-- ---- Field Arguments

-- ArgumentsDefinition = "(" InputValueDefinition+ ")"
abbrev pub arguments_definition_rule : Expr
arguments_definition_rule =
    Then (punctuator (codes "(")) (Then (some_of (Sym symbol.input_value_definition)) (punctuator (codes ")")))

-- InputValueDefinition = Description? Name ":" Type DefaultValue? ConstDirectives?
abbrev pub input_value_definition_rule : Expr
input_value_definition_rule =
    Then (optional (Sym symbol.description)) (Then name (Then (punctuator (codes ":")) (Then (Sym symbol.type)
    (Then (optional (Sym symbol.default_value)) (optional (Sym symbol.const_directives))))))

-- ---- Interfaces

-- InterfaceTypeHead = "interface" Name ImplementsInterfaces? ConstDirectives?
abbrev pub interface_type_head_rule : Expr
interface_type_head_rule =
    Then (word (codes "interface")) (Then name (Then (optional (Sym symbol.implements_interfaces))
    (optional (Sym symbol.const_directives))))

-- ---- Unions

-- UnionTypeDefinition = "union" Name ConstDirectives? UnionMemberTypes?
abbrev pub union_type_definition_rule : Expr
union_type_definition_rule =
    Then (word (codes "union")) (Then name (Then (optional (Sym symbol.const_directives))
    (optional (Sym symbol.union_member_types))))

-- UnionMemberTypes = "=" "|"? NamedType ("|" NamedType)*
abbrev pub union_member_types_rule : Expr
union_member_types_rule =
    Then (punctuator (codes "=")) (Then (optional (punctuator (codes "|"))) (Then (Sym symbol.named_type)
    (Many (Then (punctuator (codes "|")) (Sym symbol.named_type)))))

-- ---- Enums

-- EnumTypeHead = "enum" Name ConstDirectives?
abbrev pub enum_type_head_rule : Expr
enum_type_head_rule = Then (word (codes "enum")) (Then name (optional (Sym symbol.const_directives)))

-- EnumValuesDefinition = "{" EnumValueDefinition+ "}"
abbrev pub enum_values_definition_rule : Expr
enum_values_definition_rule =
    Then (punctuator (codes "{")) (Then (some_of (Sym symbol.enum_value_definition)) (punctuator (codes "}")))

-- EnumValueDefinition = Description? EnumValue ConstDirectives?
abbrev pub enum_value_definition_rule : Expr
enum_value_definition_rule =
    Then (optional (Sym symbol.description)) (Then (Sym symbol.enum_value) (optional (Sym symbol.const_directives)))

-- ---- Input Objects

-- InputObjectTypeHead = "input" Name ConstDirectives?
abbrev pub input_object_type_head_rule : Expr
input_object_type_head_rule = Then (word (codes "input")) (Then name (optional (Sym symbol.const_directives)))

-- InputFieldsDefinition = "{" InputValueDefinition+ "}"
abbrev pub input_fields_definition_rule : Expr
input_fields_definition_rule =
    Then (punctuator (codes "{")) (Then (some_of (Sym symbol.input_value_definition)) (punctuator (codes "}")))

-- ---- Directives (Type System)

-- DirectiveDefinition = "directive" "@" Name ArgumentsDefinition? "repeatable"? "on" DirectiveLocations
abbrev pub directive_definition_rule : Expr
directive_definition_rule =
    Then (word (codes "directive")) (Then (punctuator (codes "@")) (Then name
    (Then (optional (Sym symbol.arguments_definition)) (Then (optional (word (codes "repeatable")))
    (Then (word (codes "on")) (Sym symbol.directive_locations))))))

-- DirectiveLocations = "|"? DirectiveLocation ("|" DirectiveLocation)*
abbrev pub directive_locations_rule : Expr
directive_locations_rule =
    Then (optional (punctuator (codes "|"))) (Then (Sym symbol.directive_location)
    (Many (Then (punctuator (codes "|")) (Sym symbol.directive_location))))

-- DirectiveLocation = one of the names in `locations`
abbrev pub directive_location_rule : Expr
directive_location_rule = One location_class

-- ---- the grammar

abbrev pub rules : List Expr
rules =
    document_rule ∷ definitions_rule ∷ other_definitions_rule ∷ described_definitions_rule ∷
    fields_then_definitions_rule ∷ enum_values_then_definitions_rule ∷ input_fields_then_definitions_rule ∷
    root_operation_types_then_definitions_rule ∷ extension_then_definitions_rule ∷ schema_extension_rule ∷
    object_extension_rule ∷ enum_extension_rule ∷ input_object_extension_rule ∷ union_extension_rule ∷
    description_rule ∷ operation_definition_rule ∷ operation_type_rule ∷ selection_set_rule ∷ selection_rule ∷
    field_rule ∷ aliased_name_rule ∷ arguments_rule ∷ argument_rule ∷ fragment_rule ∷ fragment_definition_rule ∷
    fragment_name_rule ∷ type_condition_rule ∷ value_rule ∷ const_value_rule ∷ string_value_rule ∷
    boolean_value_rule ∷ null_value_rule ∷ enum_value_rule ∷ list_value_rule ∷ const_list_value_rule ∷
    object_value_rule ∷ object_field_rule ∷ const_object_value_rule ∷ const_object_field_rule ∷
    variables_definition_rule ∷ variable_definition_rule ∷ variable_rule ∷ default_value_rule ∷ type_rule ∷
    named_type_rule ∷ list_type_rule ∷ directives_rule ∷ directive_rule ∷ const_directives_rule ∷
    const_directive_rule ∷ const_arguments_rule ∷ const_argument_rule ∷ schema_definition_rule ∷
    root_operation_types_rule ∷ root_operation_type_definition_rule ∷ scalar_type_definition_rule ∷
    object_type_head_rule ∷ implements_interfaces_rule ∷ fields_definition_rule ∷ field_definition_rule ∷
    arguments_definition_rule ∷ input_value_definition_rule ∷ interface_type_head_rule ∷
    union_type_definition_rule ∷ union_member_types_rule ∷ enum_type_head_rule ∷ enum_values_definition_rule ∷
    enum_value_definition_rule ∷ input_object_type_head_rule ∷ input_fields_definition_rule ∷
    directive_definition_rule ∷ directive_locations_rule ∷ directive_location_rule ∷ []

-- ExecutableDirectiveLocation and TypeSystemDirectiveLocation (Directives)
abbrev pub locations : List (List ℕ)
locations =
    codes "QUERY" ∷ codes "MUTATION" ∷ codes "SUBSCRIPTION" ∷ codes "FIELD" ∷ codes "FRAGMENT_DEFINITION" ∷
    codes "FRAGMENT_SPREAD" ∷ codes "INLINE_FRAGMENT" ∷ codes "VARIABLE_DEFINITION" ∷ codes "SCHEMA" ∷
    codes "SCALAR" ∷ codes "OBJECT" ∷ codes "FIELD_DEFINITION" ∷ codes "ARGUMENT_DEFINITION" ∷ codes "INTERFACE" ∷
    codes "UNION" ∷ codes "ENUM" ∷ codes "ENUM_VALUE" ∷ codes "INPUT_OBJECT" ∷ codes "INPUT_FIELD_DEFINITION" ∷ []

-- a directive location has one of these names
abbrev pub is_good : Class → Token → Bool
is_good (Except k []) t = is_listed t.spelling locations
is_good _ t = true

-- no node is rejected
abbrev pub standard : Grammar
standard = record { rows = with_tables rules tables; good = is_good; check = λ k x. true; samples = samples }
