-- The tables of the grammar, as literals: whether a symbol derives nothing, what it can begin with, what can continue
-- it, its rank, and a parse tree of it. The test `is_ll1` compares them with the rules.
use Rattle.std.specs.Prelude.{ℕ, Bool, true, false, List, [], ◌∷◌, codes}
use Rattle.graphql_core.specs.{Class, Empty, Row, ParseTree}
use Rattle.graphql_core.specs.{any, keyword, punctuator_class, location_class}
use Rattle.graphql_core.specs.values.Grammar.{enum_class}
use Rattle.graphql_core.specs.declared.tokenizer.token.Kind.TheVariants.{Name, IntValue, FloatValue}
use Rattle.graphql_core.specs.declared.tokenizer.token.Kind.TheVariants.{StringValue, BlockString}
use Rattle.graphql_standard.specs.Symbols.{fragment_name_class}
use Rattle.graphql_standard.specs.ParseTrees as example

abbrev table : Bool → List Class → List Class → ℕ → ParseTree → Row
table n f c r l = record { rule = Empty; nullable = n; first = f; cont = c; rank = r; least = l }

-- ---- long lists of classes

abbrev classes_1 : List Class
classes_1 =
    punctuator_class (codes "{") ∷ keyword (codes "extend") ∷ any StringValue ∷ any BlockString ∷
    keyword (codes "query") ∷ keyword (codes "mutation") ∷ keyword (codes "subscription") ∷
    keyword (codes "fragment") ∷ keyword (codes "schema") ∷ keyword (codes "scalar") ∷ keyword (codes "type") ∷
    keyword (codes "interface") ∷ keyword (codes "union") ∷ keyword (codes "enum") ∷ keyword (codes "input") ∷
    keyword (codes "directive") ∷ []

abbrev classes_2 : List Class
classes_2 =
    punctuator_class (codes "{") ∷ keyword (codes "extend") ∷ any StringValue ∷ any BlockString ∷
    keyword (codes "fragment") ∷ keyword (codes "schema") ∷ keyword (codes "scalar") ∷ keyword (codes "type") ∷
    keyword (codes "interface") ∷ keyword (codes "union") ∷ keyword (codes "enum") ∷ keyword (codes "input") ∷
    keyword (codes "directive") ∷ punctuator_class (codes "@") ∷ punctuator_class (codes "=") ∷
    keyword (codes "implements") ∷ keyword (codes "query") ∷ keyword (codes "mutation") ∷
    keyword (codes "subscription") ∷ punctuator_class (codes "(") ∷ punctuator_class (codes "&") ∷
    punctuator_class (codes "|") ∷ []

abbrev classes_3 : List Class
classes_3 =
    keyword (codes "extend") ∷ any StringValue ∷ any BlockString ∷ keyword (codes "query") ∷
    keyword (codes "mutation") ∷ keyword (codes "subscription") ∷ keyword (codes "fragment") ∷
    keyword (codes "schema") ∷ keyword (codes "scalar") ∷ keyword (codes "type") ∷ keyword (codes "interface") ∷
    keyword (codes "union") ∷ keyword (codes "enum") ∷ keyword (codes "input") ∷ keyword (codes "directive") ∷ []

abbrev classes_4 : List Class
classes_4 =
    keyword (codes "query") ∷ keyword (codes "mutation") ∷ keyword (codes "subscription") ∷
    keyword (codes "fragment") ∷ keyword (codes "schema") ∷ keyword (codes "scalar") ∷ keyword (codes "type") ∷
    keyword (codes "interface") ∷ keyword (codes "union") ∷ keyword (codes "enum") ∷ keyword (codes "input") ∷
    keyword (codes "directive") ∷ []

abbrev classes_5 : List Class
classes_5 =
    keyword (codes "schema") ∷ keyword (codes "scalar") ∷ keyword (codes "type") ∷ keyword (codes "interface") ∷
    keyword (codes "union") ∷ keyword (codes "enum") ∷ keyword (codes "input") ∷ []

abbrev classes_6 : List Class
classes_6 =
    punctuator_class (codes "|") ∷ punctuator_class (codes "=") ∷ punctuator_class (codes "@") ∷
    punctuator_class (codes "(") ∷ []

abbrev classes_7 : List Class
classes_7 =
    punctuator_class (codes "{") ∷ punctuator_class (codes "@") ∷ punctuator_class (codes "(") ∷
    punctuator_class (codes ":") ∷ []

abbrev classes_8 : List Class
classes_8 =
    fragment_name_class ∷ keyword (codes "on") ∷ punctuator_class (codes "@") ∷ punctuator_class (codes "{") ∷ []

abbrev classes_9 : List Class
classes_9 =
    punctuator_class (codes "$") ∷ any IntValue ∷ any FloatValue ∷ any StringValue ∷ any BlockString ∷
    keyword (codes "true") ∷ keyword (codes "false") ∷ keyword (codes "null") ∷ enum_class ∷
    punctuator_class (codes "[") ∷ punctuator_class (codes "{") ∷ []

abbrev classes_10 : List Class
classes_10 =
    any IntValue ∷ any FloatValue ∷ any StringValue ∷ any BlockString ∷ keyword (codes "true") ∷
    keyword (codes "false") ∷ keyword (codes "null") ∷ enum_class ∷ punctuator_class (codes "[") ∷
    punctuator_class (codes "{") ∷ []

abbrev classes_11 : List Class
classes_11 =
    punctuator_class (codes "@") ∷ punctuator_class (codes "(") ∷ punctuator_class (codes "=") ∷
    punctuator_class (codes "!") ∷ []

abbrev classes_12 : List Class
classes_12 =
    punctuator_class (codes "@") ∷ punctuator_class (codes "(") ∷ punctuator_class (codes "&") ∷
    keyword (codes "implements") ∷ []

-- ---- the tables

abbrev pub document_table : Row
document_table = table false classes_1 classes_2 5 example.document_tree

abbrev pub definitions_table : Row
definitions_table = table false classes_1 classes_2 4 example.definitions_tree

abbrev pub other_definitions_table : Row
other_definitions_table = table false classes_3 classes_2 3 example.other_definitions_tree

abbrev pub described_definitions_table : Row
described_definitions_table = table false classes_4 classes_2 2 example.described_definitions_tree

abbrev pub fields_then_definitions_table : Row
fields_then_definitions_table = table true classes_1 classes_2 4 example.fields_then_definitions_tree

abbrev pub enum_values_then_definitions_table : Row
enum_values_then_definitions_table = table true classes_1 classes_2 4 example.enum_values_then_definitions_tree

abbrev pub input_fields_then_definitions_table : Row
input_fields_then_definitions_table = table true classes_1 classes_2 4 example.input_fields_then_definitions_tree

abbrev pub root_operation_types_then_definitions_table : Row
root_operation_types_then_definitions_table =
    table true classes_1 classes_2 4 example.root_operation_types_then_definitions_tree

abbrev pub extension_then_definitions_table : Row
extension_then_definitions_table = table false classes_5 classes_2 0 example.extension_then_definitions_tree

abbrev pub schema_extension_table : Row
schema_extension_table =
    table false (punctuator_class (codes "@") ∷ punctuator_class (codes "{") ∷ []) classes_2 2
    example.schema_extension_tree

abbrev pub object_extension_table : Row
object_extension_table =
    table false (keyword (codes "implements") ∷ punctuator_class (codes "@") ∷ punctuator_class (codes "{") ∷ [])
    classes_2 2 example.object_extension_tree

abbrev pub enum_extension_table : Row
enum_extension_table =
    table false (punctuator_class (codes "@") ∷ punctuator_class (codes "{") ∷ []) classes_2 2
    example.enum_extension_tree

abbrev pub input_object_extension_table : Row
input_object_extension_table =
    table false (punctuator_class (codes "@") ∷ punctuator_class (codes "{") ∷ []) classes_2
    2 example.input_object_extension_tree

abbrev pub union_extension_table : Row
union_extension_table =
    table false (punctuator_class (codes "@") ∷ punctuator_class (codes "=") ∷ []) classes_6 2
    example.union_extension_tree

abbrev pub description_table : Row
description_table = table false (any StringValue ∷ any BlockString ∷ []) [] 1 example.description_tree

abbrev pub operation_definition_table : Row
operation_definition_table =
    table false (keyword (codes "query") ∷ keyword (codes "mutation") ∷ keyword (codes "subscription") ∷ []) []
    1 example.operation_definition_tree

abbrev pub operation_type_table : Row
operation_type_table =
    table false (keyword (codes "query") ∷ keyword (codes "mutation") ∷ keyword (codes "subscription") ∷ []) []
    0 example.operation_type_tree

abbrev pub selection_set_table : Row
selection_set_table = table false (punctuator_class (codes "{") ∷ []) [] 0 example.selection_set_tree

abbrev pub selection_table : Row
selection_table = table false (any Name ∷ punctuator_class (codes "...") ∷ []) classes_7 1 example.selection_tree

abbrev pub field_table : Row
field_table = table false (any Name ∷ []) classes_7 0 example.field_tree

abbrev pub aliased_name_table : Row
aliased_name_table = table false (punctuator_class (codes ":") ∷ []) [] 0 example.aliased_name_tree

abbrev pub arguments_table : Row
arguments_table = table false (punctuator_class (codes "(") ∷ []) [] 0 example.arguments_tree

abbrev pub argument_table : Row
argument_table = table false (any Name ∷ []) [] 0 example.argument_tree

abbrev pub fragment_table : Row
fragment_table =
    table false classes_8 (punctuator_class (codes "@") ∷ punctuator_class (codes "(") ∷ []) 2 example.fragment_tree

abbrev pub fragment_definition_table : Row
fragment_definition_table = table false (keyword (codes "fragment") ∷ []) [] 0 example.fragment_definition_tree

abbrev pub fragment_name_table : Row
fragment_name_table = table false (fragment_name_class ∷ []) [] 0 example.fragment_name_tree

abbrev pub type_condition_table : Row
type_condition_table = table false (keyword (codes "on") ∷ []) [] 0 example.type_condition_tree

abbrev pub value_table : Row
value_table = table false classes_9 [] 1 example.value_tree

abbrev pub const_value_table : Row
const_value_table = table false classes_10 [] 1 example.const_value_tree

abbrev pub string_value_table : Row
string_value_table = table false (any StringValue ∷ any BlockString ∷ []) [] 0 example.string_value_tree

abbrev pub boolean_value_table : Row
boolean_value_table =
    table false (keyword (codes "true") ∷ keyword (codes "false") ∷ []) [] 0 example.boolean_value_tree

abbrev pub null_value_table : Row
null_value_table = table false (keyword (codes "null") ∷ []) [] 0 example.null_value_tree

abbrev pub enum_value_table : Row
enum_value_table = table false (enum_class ∷ []) [] 0 example.enum_value_tree

abbrev pub list_value_table : Row
list_value_table = table false (punctuator_class (codes "[") ∷ []) [] 0 example.list_value_tree

abbrev pub const_list_value_table : Row
const_list_value_table = table false (punctuator_class (codes "[") ∷ []) [] 0 example.const_list_value_tree

abbrev pub object_value_table : Row
object_value_table = table false (punctuator_class (codes "{") ∷ []) [] 0 example.object_value_tree

abbrev pub object_field_table : Row
object_field_table = table false (any Name ∷ []) [] 0 example.object_field_tree

abbrev pub const_object_value_table : Row
const_object_value_table = table false (punctuator_class (codes "{") ∷ []) [] 0 example.const_object_value_tree

abbrev pub const_object_field_table : Row
const_object_field_table = table false (any Name ∷ []) [] 0 example.const_object_field_tree

abbrev pub variables_definition_table : Row
variables_definition_table = table false (punctuator_class (codes "(") ∷ []) [] 0 example.variables_definition_tree

abbrev pub variable_definition_table : Row
variable_definition_table =
    table false (any StringValue ∷ any BlockString ∷ punctuator_class (codes "$") ∷ []) classes_11
    2 example.variable_definition_tree

abbrev pub variable_table : Row
variable_table = table false (punctuator_class (codes "$") ∷ []) [] 0 example.variable_tree

abbrev pub default_value_table : Row
default_value_table = table false (punctuator_class (codes "=") ∷ []) [] 0 example.default_value_tree

abbrev pub type_table : Row
type_table =
    table false (any Name ∷ punctuator_class (codes "[") ∷ []) (punctuator_class (codes "!") ∷ []) 1 example.type_tree

abbrev pub named_type_table : Row
named_type_table = table false (any Name ∷ []) [] 0 example.named_type_tree

abbrev pub list_type_table : Row
list_type_table = table false (punctuator_class (codes "[") ∷ []) [] 0 example.list_type_tree

abbrev pub directives_table : Row
directives_table =
    table false (punctuator_class (codes "@") ∷ [])
    (punctuator_class (codes "@") ∷ punctuator_class (codes "(") ∷ []) 1 example.directives_tree

abbrev pub directive_table : Row
directive_table =
    table false (punctuator_class (codes "@") ∷ []) (punctuator_class (codes "(") ∷ []) 0 example.directive_tree

abbrev pub const_directives_table : Row
const_directives_table =
    table false (punctuator_class (codes "@") ∷ [])
    (punctuator_class (codes "@") ∷ punctuator_class (codes "(") ∷ []) 1 example.const_directives_tree

abbrev pub const_directive_table : Row
const_directive_table =
    table false (punctuator_class (codes "@") ∷ []) (punctuator_class (codes "(") ∷ []) 0 example.const_directive_tree

abbrev pub const_arguments_table : Row
const_arguments_table = table false (punctuator_class (codes "(") ∷ []) [] 0 example.const_arguments_tree

abbrev pub const_argument_table : Row
const_argument_table = table false (any Name ∷ []) [] 0 example.const_argument_tree

abbrev pub schema_definition_table : Row
schema_definition_table = table false (keyword (codes "schema") ∷ []) [] 0 example.schema_definition_tree

abbrev pub root_operation_types_table : Row
root_operation_types_table = table false (punctuator_class (codes "{") ∷ []) [] 0 example.root_operation_types_tree

abbrev pub root_operation_type_definition_table : Row
root_operation_type_definition_table =
    table false (keyword (codes "query") ∷ keyword (codes "mutation") ∷ keyword (codes "subscription") ∷ []) []
    1 example.root_operation_type_definition_tree

abbrev pub scalar_type_definition_table : Row
scalar_type_definition_table =
    table false (keyword (codes "scalar") ∷ []) (punctuator_class (codes "@") ∷ punctuator_class (codes "(") ∷ [])
    0 example.scalar_type_definition_tree

abbrev pub object_type_head_table : Row
object_type_head_table = table false (keyword (codes "type") ∷ []) classes_12 0 example.object_type_head_tree

abbrev pub implements_interfaces_table : Row
implements_interfaces_table =
    table false (keyword (codes "implements") ∷ []) (punctuator_class (codes "&") ∷ []) 0
    example.implements_interfaces_tree

abbrev pub fields_definition_table : Row
fields_definition_table = table false (punctuator_class (codes "{") ∷ []) [] 0 example.fields_definition_tree

abbrev pub field_definition_table : Row
field_definition_table =
    table false (any StringValue ∷ any BlockString ∷ any Name ∷ [])
    (punctuator_class (codes "@") ∷ punctuator_class (codes "(") ∷ punctuator_class (codes "!") ∷ [])
    2 example.field_definition_tree

abbrev pub arguments_definition_table : Row
arguments_definition_table = table false (punctuator_class (codes "(") ∷ []) [] 0 example.arguments_definition_tree

abbrev pub input_value_definition_table : Row
input_value_definition_table =
    table false (any StringValue ∷ any BlockString ∷ any Name ∷ []) classes_11 2 example.input_value_definition_tree

abbrev pub interface_type_head_table : Row
interface_type_head_table = table false (keyword (codes "interface") ∷ []) classes_12 0 example.interface_type_head_tree

abbrev pub union_type_definition_table : Row
union_type_definition_table = table false (keyword (codes "union") ∷ []) classes_6 0 example.union_type_definition_tree

abbrev pub union_member_types_table : Row
union_member_types_table =
    table false (punctuator_class (codes "=") ∷ []) (punctuator_class (codes "|") ∷ []) 0
    example.union_member_types_tree

abbrev pub enum_type_head_table : Row
enum_type_head_table =
    table false (keyword (codes "enum") ∷ []) (punctuator_class (codes "@") ∷ punctuator_class (codes "(") ∷ [])
    0 example.enum_type_head_tree

abbrev pub enum_values_definition_table : Row
enum_values_definition_table = table false (punctuator_class (codes "{") ∷ []) [] 0 example.enum_values_definition_tree

abbrev pub enum_value_definition_table : Row
enum_value_definition_table =
    table false (any StringValue ∷ any BlockString ∷ enum_class ∷ [])
    (punctuator_class (codes "@") ∷ punctuator_class (codes "(") ∷ []) 2 example.enum_value_definition_tree

abbrev pub input_object_type_head_table : Row
input_object_type_head_table =
    table false (keyword (codes "input") ∷ []) (punctuator_class (codes "@") ∷ punctuator_class (codes "(") ∷ [])
    0 example.input_object_type_head_tree

abbrev pub input_fields_definition_table : Row
input_fields_definition_table =
    table false (punctuator_class (codes "{") ∷ []) [] 0 example.input_fields_definition_tree

abbrev pub directive_definition_table : Row
directive_definition_table =
    table false (keyword (codes "directive") ∷ []) (punctuator_class (codes "|") ∷ []) 0
    example.directive_definition_tree

abbrev pub directive_locations_table : Row
directive_locations_table =
    table false (punctuator_class (codes "|") ∷ location_class ∷ []) (punctuator_class (codes "|") ∷ [])
    1 example.directive_locations_tree

abbrev pub directive_location_table : Row
directive_location_table = table false (location_class ∷ []) [] 0 example.directive_location_tree

abbrev pub tables : List Row
tables =
    document_table ∷ definitions_table ∷ other_definitions_table ∷ described_definitions_table ∷
    fields_then_definitions_table ∷ enum_values_then_definitions_table ∷ input_fields_then_definitions_table ∷
    root_operation_types_then_definitions_table ∷ extension_then_definitions_table ∷ schema_extension_table ∷
    object_extension_table ∷ enum_extension_table ∷ input_object_extension_table ∷ union_extension_table ∷
    description_table ∷ operation_definition_table ∷ operation_type_table ∷ selection_set_table ∷ selection_table ∷
    field_table ∷ aliased_name_table ∷ arguments_table ∷ argument_table ∷ fragment_table ∷
    fragment_definition_table ∷ fragment_name_table ∷ type_condition_table ∷ value_table ∷ const_value_table ∷
    string_value_table ∷ boolean_value_table ∷ null_value_table ∷ enum_value_table ∷ list_value_table ∷
    const_list_value_table ∷ object_value_table ∷ object_field_table ∷ const_object_value_table ∷
    const_object_field_table ∷ variables_definition_table ∷ variable_definition_table ∷ variable_table ∷
    default_value_table ∷ type_table ∷ named_type_table ∷ list_type_table ∷ directives_table ∷ directive_table ∷
    const_directives_table ∷ const_directive_table ∷ const_arguments_table ∷ const_argument_table ∷
    schema_definition_table ∷ root_operation_types_table ∷ root_operation_type_definition_table ∷
    scalar_type_definition_table ∷ object_type_head_table ∷ implements_interfaces_table ∷ fields_definition_table ∷
    field_definition_table ∷ arguments_definition_table ∷ input_value_definition_table ∷
    interface_type_head_table ∷ union_type_definition_table ∷ union_member_types_table ∷ enum_type_head_table ∷
    enum_values_definition_table ∷ enum_value_definition_table ∷ input_object_type_head_table ∷
    input_fields_definition_table ∷ directive_definition_table ∷ directive_locations_table ∷
    directive_location_table ∷ []
