-- A token of each class of the grammar, and a parse tree of each symbol: it derives something.
use Rattle.std.specs.Prelude.{ℕ, List, [], ◌∷◌, codes}
use Rattle.graphql_core.specs.{Token, ParseTree, Nothing, Leaf, Both, First, Second}
use Rattle.graphql_core.specs.{Stop, Node, sample}
use Rattle.graphql_core.specs.declared.tokenizer.token.Kind.TheVariants.{Punctuator, Name, IntValue, FloatValue}
use Rattle.graphql_core.specs.declared.tokenizer.token.Kind.TheVariants.{StringValue, BlockString}
use Rattle.graphql_standard.specs.Symbols.{fragment_name_class}
use Rattle.graphql_standard.specs.Symbols as symbol

-- ---- a token of each class

abbrev pub samples : List Token
samples =
    sample Name (codes "directive") ∷ sample Name (codes "enum") ∷ sample Name (codes "extend") ∷
    sample Name (codes "false") ∷ sample Name (codes "fragment") ∷ sample Name (codes "implements") ∷
    sample Name (codes "input") ∷ sample Name (codes "interface") ∷ sample Name (codes "mutation") ∷
    sample Name (codes "null") ∷ sample Name (codes "on") ∷ sample Name (codes "query") ∷
    sample Name (codes "repeatable") ∷ sample Name (codes "scalar") ∷ sample Name (codes "schema") ∷
    sample Name (codes "subscription") ∷ sample Name (codes "true") ∷ sample Name (codes "type") ∷
    sample Name (codes "union") ∷ sample Punctuator (codes "!") ∷ sample Punctuator (codes "$") ∷
    sample Punctuator (codes "&") ∷ sample Punctuator (codes "(") ∷ sample Punctuator (codes ")") ∷
    sample Punctuator (codes "...") ∷ sample Punctuator (codes ":") ∷ sample Punctuator (codes "=") ∷
    sample Punctuator (codes "@") ∷ sample Punctuator (codes "[") ∷ sample Punctuator (codes "]") ∷
    sample Punctuator (codes "{") ∷ sample Punctuator (codes "|") ∷ sample Punctuator (codes "}") ∷
    sample Name (codes "a") ∷ sample Name (codes "QUERY") ∷ sample IntValue (codes "0") ∷
    sample FloatValue (codes "0.0") ∷ sample StringValue (34 ∷ 34 ∷ []) ∷
    sample BlockString (34 ∷ 34 ∷ 34 ∷ 34 ∷ 34 ∷ 34 ∷ []) ∷ []

-- ---- a parse tree of each symbol

abbrev word_leaf : List ℕ → ParseTree
word_leaf s = Leaf (sample Name s)

abbrev punctuator_leaf : List ℕ → ParseTree
punctuator_leaf s = Leaf (sample Punctuator s)

abbrev name_leaf : ParseTree
name_leaf = word_leaf (codes "a")

abbrev pub scalar_type_definition_tree : ParseTree
scalar_type_definition_tree = Both (word_leaf (codes "scalar")) (Both name_leaf (Second Nothing))

abbrev pub described_definitions_tree : ParseTree
described_definitions_tree =
    Second (Second (Second (First (Both (Node symbol.scalar_type_definition scalar_type_definition_tree) (Second
    Nothing)))))

abbrev pub other_definitions_tree : ParseTree
other_definitions_tree =
    Second (Both (Second Nothing) (Node symbol.described_definitions described_definitions_tree))

abbrev pub definitions_tree : ParseTree
definitions_tree = Second (Node symbol.other_definitions other_definitions_tree)

abbrev pub document_tree : ParseTree
document_tree = Node symbol.definitions definitions_tree

abbrev pub fields_then_definitions_tree : ParseTree
fields_then_definitions_tree = Second (Second Nothing)

abbrev pub enum_values_then_definitions_tree : ParseTree
enum_values_then_definitions_tree = Second (Second Nothing)

abbrev pub input_fields_then_definitions_tree : ParseTree
input_fields_then_definitions_tree = Second (Second Nothing)

abbrev pub root_operation_types_then_definitions_tree : ParseTree
root_operation_types_then_definitions_tree = Second (Second Nothing)

abbrev pub const_directive_tree : ParseTree
const_directive_tree = Both (punctuator_leaf (codes "@")) (Both name_leaf (Second Nothing))

abbrev pub const_directives_tree : ParseTree
const_directives_tree = Both (Node symbol.const_directive const_directive_tree) Stop

abbrev pub schema_extension_tree : ParseTree
schema_extension_tree =
    First (Both (Node symbol.const_directives const_directives_tree) (Node
    symbol.root_operation_types_then_definitions root_operation_types_then_definitions_tree))

abbrev pub extension_then_definitions_tree : ParseTree
extension_then_definitions_tree =
    First (Both (word_leaf (codes "schema")) (Node symbol.schema_extension schema_extension_tree))

abbrev pub named_type_tree : ParseTree
named_type_tree = name_leaf

abbrev pub implements_interfaces_tree : ParseTree
implements_interfaces_tree =
    Both (word_leaf (codes "implements")) (Both (Second Nothing) (Both (Node symbol.named_type named_type_tree)
    Stop))

abbrev pub object_extension_tree : ParseTree
object_extension_tree =
    First (Both (Node symbol.implements_interfaces implements_interfaces_tree) (Both (Second Nothing) (Node
    symbol.fields_then_definitions fields_then_definitions_tree)))

abbrev pub enum_extension_tree : ParseTree
enum_extension_tree =
    First (Both (Node symbol.const_directives const_directives_tree) (Node symbol.enum_values_then_definitions
    enum_values_then_definitions_tree))

abbrev pub input_object_extension_tree : ParseTree
input_object_extension_tree =
    First (Both (Node symbol.const_directives const_directives_tree) (Node symbol.input_fields_then_definitions
    input_fields_then_definitions_tree))

abbrev pub union_extension_tree : ParseTree
union_extension_tree = First (Both (Node symbol.const_directives const_directives_tree) (Second Nothing))

abbrev pub string_value_tree : ParseTree
string_value_tree = First (Leaf (sample StringValue (34 ∷ 34 ∷ [])))

abbrev pub description_tree : ParseTree
description_tree = Node symbol.string_value string_value_tree

abbrev pub operation_type_tree : ParseTree
operation_type_tree = First (word_leaf (codes "query"))

abbrev pub field_tree : ParseTree
field_tree = Both name_leaf (Both (Second Nothing) (Both (Second Nothing) (Both (Second Nothing) (Second Nothing))))

abbrev pub selection_tree : ParseTree
selection_tree = First (Node symbol.field field_tree)

abbrev pub selection_set_tree : ParseTree
selection_set_tree =
    Both (punctuator_leaf (codes "{")) (Both (Both (Node symbol.selection selection_tree) Stop) (punctuator_leaf
    (codes "}")))

abbrev pub operation_definition_tree : ParseTree
operation_definition_tree =
    Both (Node symbol.operation_type operation_type_tree) (Both (Second Nothing) (Both (Second Nothing) (Both
    (Second Nothing) (Node symbol.selection_set selection_set_tree))))

abbrev pub aliased_name_tree : ParseTree
aliased_name_tree = Both (punctuator_leaf (codes ":")) name_leaf

abbrev pub value_tree : ParseTree
value_tree = Second (First (Leaf (sample IntValue (codes "0"))))

abbrev pub argument_tree : ParseTree
argument_tree = Both name_leaf (Both (punctuator_leaf (codes ":")) (Node symbol.value value_tree))

abbrev pub arguments_tree : ParseTree
arguments_tree =
    Both (punctuator_leaf (codes "(")) (Both (Both (Node symbol.argument argument_tree) Stop) (punctuator_leaf
    (codes ")")))

abbrev pub fragment_name_tree : ParseTree
fragment_name_tree = name_leaf

abbrev pub fragment_tree : ParseTree
fragment_tree = First (Both (Node symbol.fragment_name fragment_name_tree) (Second Nothing))

abbrev pub type_condition_tree : ParseTree
type_condition_tree = Both (word_leaf (codes "on")) (Node symbol.named_type named_type_tree)

abbrev pub fragment_definition_tree : ParseTree
fragment_definition_tree =
    Both (word_leaf (codes "fragment")) (Both (Node symbol.fragment_name fragment_name_tree) (Both (Node
    symbol.type_condition type_condition_tree) (Both (Second Nothing) (Node symbol.selection_set
    selection_set_tree))))

abbrev pub const_value_tree : ParseTree
const_value_tree = First (Leaf (sample IntValue (codes "0")))

abbrev pub boolean_value_tree : ParseTree
boolean_value_tree = First (word_leaf (codes "true"))

abbrev pub null_value_tree : ParseTree
null_value_tree = word_leaf (codes "null")

abbrev pub enum_value_tree : ParseTree
enum_value_tree = name_leaf

abbrev pub list_value_tree : ParseTree
list_value_tree = Both (punctuator_leaf (codes "[")) (Both Stop (punctuator_leaf (codes "]")))

abbrev pub const_list_value_tree : ParseTree
const_list_value_tree = Both (punctuator_leaf (codes "[")) (Both Stop (punctuator_leaf (codes "]")))

abbrev pub object_value_tree : ParseTree
object_value_tree = Both (punctuator_leaf (codes "{")) (Both Stop (punctuator_leaf (codes "}")))

abbrev pub object_field_tree : ParseTree
object_field_tree = Both name_leaf (Both (punctuator_leaf (codes ":")) (Node symbol.value value_tree))

abbrev pub const_object_value_tree : ParseTree
const_object_value_tree = Both (punctuator_leaf (codes "{")) (Both Stop (punctuator_leaf (codes "}")))

abbrev pub const_object_field_tree : ParseTree
const_object_field_tree =
    Both name_leaf (Both (punctuator_leaf (codes ":")) (Node symbol.const_value const_value_tree))

abbrev pub variable_tree : ParseTree
variable_tree = Both (punctuator_leaf (codes "$")) name_leaf

abbrev pub type_tree : ParseTree
type_tree = First (Both (Node symbol.named_type named_type_tree) (Second Nothing))

abbrev pub variable_definition_tree : ParseTree
variable_definition_tree =
    Both (Second Nothing) (Both (Node symbol.variable variable_tree) (Both (punctuator_leaf (codes ":")) (Both
    (Node symbol.type type_tree) (Both (Second Nothing) (Second Nothing)))))

abbrev pub variables_definition_tree : ParseTree
variables_definition_tree =
    Both (punctuator_leaf (codes "(")) (Both (Both (Node symbol.variable_definition variable_definition_tree)
    Stop) (punctuator_leaf (codes ")")))

abbrev pub default_value_tree : ParseTree
default_value_tree = Both (punctuator_leaf (codes "=")) (Node symbol.const_value const_value_tree)

abbrev pub list_type_tree : ParseTree
list_type_tree =
    Both (punctuator_leaf (codes "[")) (Both (Node symbol.type type_tree) (punctuator_leaf (codes "]")))

abbrev pub directive_tree : ParseTree
directive_tree = Both (punctuator_leaf (codes "@")) (Both name_leaf (Second Nothing))

abbrev pub directives_tree : ParseTree
directives_tree = Both (Node symbol.directive directive_tree) Stop

abbrev pub const_argument_tree : ParseTree
const_argument_tree = Both name_leaf (Both (punctuator_leaf (codes ":")) (Node symbol.const_value const_value_tree))

abbrev pub const_arguments_tree : ParseTree
const_arguments_tree =
    Both (punctuator_leaf (codes "(")) (Both (Both (Node symbol.const_argument const_argument_tree) Stop)
    (punctuator_leaf (codes ")")))

abbrev pub root_operation_type_definition_tree : ParseTree
root_operation_type_definition_tree =
    Both (Node symbol.operation_type operation_type_tree) (Both (punctuator_leaf (codes ":")) (Node
    symbol.named_type named_type_tree))

abbrev pub root_operation_types_tree : ParseTree
root_operation_types_tree =
    Both (punctuator_leaf (codes "{")) (Both (Both (Node symbol.root_operation_type_definition
    root_operation_type_definition_tree) Stop) (punctuator_leaf (codes "}")))

abbrev pub schema_definition_tree : ParseTree
schema_definition_tree =
    Both (word_leaf (codes "schema")) (Both (Second Nothing) (Node symbol.root_operation_types
    root_operation_types_tree))

abbrev pub object_type_head_tree : ParseTree
object_type_head_tree = Both (word_leaf (codes "type")) (Both name_leaf (Both (Second Nothing) (Second Nothing)))

abbrev pub field_definition_tree : ParseTree
field_definition_tree =
    Both (Second Nothing) (Both name_leaf (Both (Second Nothing) (Both (punctuator_leaf (codes ":")) (Both (Node
    symbol.type type_tree) (Second Nothing)))))

abbrev pub fields_definition_tree : ParseTree
fields_definition_tree =
    Both (punctuator_leaf (codes "{")) (Both (Both (Node symbol.field_definition field_definition_tree) Stop)
    (punctuator_leaf (codes "}")))

abbrev pub input_value_definition_tree : ParseTree
input_value_definition_tree =
    Both (Second Nothing) (Both name_leaf (Both (punctuator_leaf (codes ":")) (Both (Node symbol.type type_tree)
    (Both (Second Nothing) (Second Nothing)))))

abbrev pub arguments_definition_tree : ParseTree
arguments_definition_tree =
    Both (punctuator_leaf (codes "(")) (Both (Both (Node symbol.input_value_definition
    input_value_definition_tree) Stop) (punctuator_leaf (codes ")")))

abbrev pub interface_type_head_tree : ParseTree
interface_type_head_tree =
    Both (word_leaf (codes "interface")) (Both name_leaf (Both (Second Nothing) (Second Nothing)))

abbrev pub union_type_definition_tree : ParseTree
union_type_definition_tree =
    Both (word_leaf (codes "union")) (Both name_leaf (Both (Second Nothing) (Second Nothing)))

abbrev pub union_member_types_tree : ParseTree
union_member_types_tree =
    Both (punctuator_leaf (codes "=")) (Both (Second Nothing) (Both (Node symbol.named_type named_type_tree)
    Stop))

abbrev pub enum_type_head_tree : ParseTree
enum_type_head_tree = Both (word_leaf (codes "enum")) (Both name_leaf (Second Nothing))

abbrev pub enum_value_definition_tree : ParseTree
enum_value_definition_tree = Both (Second Nothing) (Both (Node symbol.enum_value enum_value_tree) (Second Nothing))

abbrev pub enum_values_definition_tree : ParseTree
enum_values_definition_tree =
    Both (punctuator_leaf (codes "{")) (Both (Both (Node symbol.enum_value_definition
    enum_value_definition_tree) Stop) (punctuator_leaf (codes "}")))

abbrev pub input_object_type_head_tree : ParseTree
input_object_type_head_tree = Both (word_leaf (codes "input")) (Both name_leaf (Second Nothing))

abbrev pub input_fields_definition_tree : ParseTree
input_fields_definition_tree =
    Both (punctuator_leaf (codes "{")) (Both (Both (Node symbol.input_value_definition
    input_value_definition_tree) Stop) (punctuator_leaf (codes "}")))

abbrev pub directive_location_tree : ParseTree
directive_location_tree = word_leaf (codes "QUERY")

abbrev pub directive_locations_tree : ParseTree
directive_locations_tree =
    Both (Second Nothing) (Both (Node symbol.directive_location directive_location_tree) Stop)

abbrev pub directive_definition_tree : ParseTree
directive_definition_tree =
    Both (word_leaf (codes "directive")) (Both (punctuator_leaf (codes "@")) (Both name_leaf (Both (Second
    Nothing) (Both (Second Nothing) (Both (word_leaf (codes "on")) (Node symbol.directive_locations
    directive_locations_tree))))))
