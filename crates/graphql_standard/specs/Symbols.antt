-- The symbols of the grammar, by their index in the list of rules.
use Rattle.std.specs.Prelude.{ℕ, [], ◌∷◌, codes}
use Rattle.graphql_core.specs.{Class, Except, kind_number}
use Rattle.graphql_core.specs.declared.tokenizer.token.Kind.TheVariants.{Name}

-- a name other than `on`
abbrev pub fragment_name_class : Class
fragment_name_class = Except (kind_number Name) (codes "on" ∷ [])

abbrev pub document : ℕ
document = 0

abbrev pub definitions : ℕ
definitions = 1

abbrev pub other_definitions : ℕ
other_definitions = 2

abbrev pub described_definitions : ℕ
described_definitions = 3

abbrev pub fields_then_definitions : ℕ
fields_then_definitions = 4

abbrev pub enum_values_then_definitions : ℕ
enum_values_then_definitions = 5

abbrev pub input_fields_then_definitions : ℕ
input_fields_then_definitions = 6

abbrev pub root_operation_types_then_definitions : ℕ
root_operation_types_then_definitions = 7

abbrev pub extension_then_definitions : ℕ
extension_then_definitions = 8

abbrev pub schema_extension : ℕ
schema_extension = 9

abbrev pub object_extension : ℕ
object_extension = 10

abbrev pub enum_extension : ℕ
enum_extension = 11

abbrev pub input_object_extension : ℕ
input_object_extension = 12

abbrev pub union_extension : ℕ
union_extension = 13

abbrev pub description : ℕ
description = 14

abbrev pub operation_definition : ℕ
operation_definition = 15

abbrev pub operation_type : ℕ
operation_type = 16

abbrev pub selection_set : ℕ
selection_set = 17

abbrev pub selection : ℕ
selection = 18

abbrev pub field : ℕ
field = 19

abbrev pub aliased_name : ℕ
aliased_name = 20

abbrev pub arguments : ℕ
arguments = 21

abbrev pub argument : ℕ
argument = 22

abbrev pub fragment : ℕ
fragment = 23

abbrev pub fragment_definition : ℕ
fragment_definition = 24

abbrev pub fragment_name : ℕ
fragment_name = 25

abbrev pub type_condition : ℕ
type_condition = 26

abbrev pub value : ℕ
value = 27

abbrev pub const_value : ℕ
const_value = 28

abbrev pub string_value : ℕ
string_value = 29

abbrev pub boolean_value : ℕ
boolean_value = 30

abbrev pub null_value : ℕ
null_value = 31

abbrev pub enum_value : ℕ
enum_value = 32

abbrev pub list_value : ℕ
list_value = 33

abbrev pub const_list_value : ℕ
const_list_value = 34

abbrev pub object_value : ℕ
object_value = 35

abbrev pub object_field : ℕ
object_field = 36

abbrev pub const_object_value : ℕ
const_object_value = 37

abbrev pub const_object_field : ℕ
const_object_field = 38

abbrev pub variables_definition : ℕ
variables_definition = 39

abbrev pub variable_definition : ℕ
variable_definition = 40

abbrev pub variable : ℕ
variable = 41

abbrev pub default_value : ℕ
default_value = 42

abbrev pub type : ℕ
type = 43

abbrev pub named_type : ℕ
named_type = 44

abbrev pub list_type : ℕ
list_type = 45

abbrev pub directives : ℕ
directives = 46

abbrev pub directive : ℕ
directive = 47

abbrev pub const_directives : ℕ
const_directives = 48

abbrev pub const_directive : ℕ
const_directive = 49

abbrev pub const_arguments : ℕ
const_arguments = 50

abbrev pub const_argument : ℕ
const_argument = 51

abbrev pub schema_definition : ℕ
schema_definition = 52

abbrev pub root_operation_types : ℕ
root_operation_types = 53

abbrev pub root_operation_type_definition : ℕ
root_operation_type_definition = 54

abbrev pub scalar_type_definition : ℕ
scalar_type_definition = 55

abbrev pub object_type_head : ℕ
object_type_head = 56

abbrev pub implements_interfaces : ℕ
implements_interfaces = 57

abbrev pub fields_definition : ℕ
fields_definition = 58

abbrev pub field_definition : ℕ
field_definition = 59

abbrev pub arguments_definition : ℕ
arguments_definition = 60

abbrev pub input_value_definition : ℕ
input_value_definition = 61

abbrev pub interface_type_head : ℕ
interface_type_head = 62

abbrev pub union_type_definition : ℕ
union_type_definition = 63

abbrev pub union_member_types : ℕ
union_member_types = 64

abbrev pub enum_type_head : ℕ
enum_type_head = 65

abbrev pub enum_values_definition : ℕ
enum_values_definition = 66

abbrev pub enum_value_definition : ℕ
enum_value_definition = 67

abbrev pub input_object_type_head : ℕ
input_object_type_head = 68

abbrev pub input_fields_definition : ℕ
input_fields_definition = 69

abbrev pub directive_definition : ℕ
directive_definition = 70

abbrev pub directive_locations : ℕ
directive_locations = 71

abbrev pub directive_location : ℕ
directive_location = 72
