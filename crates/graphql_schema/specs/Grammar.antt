-- The grammar of schema documents.
use Rattle.std.specs.Prelude.{ℕ, ◌+◌, Bool, true, not, ◌==◌, if◌then◌else◌, codes, List, [], ◌∷◌, ◌++◌, is_some}
use Rattle.graphql_core.specs.{Token, Class, Except, Expr, One, Then, Either, Many, Sym, ParseTree, Node, optional}
use Rattle.graphql_core.specs.{some_of, with_tables, type_symbol, directives_symbol, default_symbol, shared_symbols}
use Rattle.graphql_core.specs.{punctuator, word, any, location_class, sample, Grammar, name}
use Rattle.graphql_core.specs.declared.tokenizer.token.Kind.TheVariants.{Punctuator, Name, StringValue, BlockString}
use Rattle.graphql_schema.specs.Locations.{is_location}
use Rattle.graphql_schema.specs.Tree.{extends}
use Rattle.graphql_schema.specs.Meanings.{extension_of}
use Rattle.graphql_schema.specs.Roots.{root_fault_of, extension_fault_of}
use Rattle.graphql_core.specs.values.Leaves as leaves
use Rattle.graphql_core.specs.values.Grammar as shared

-- ---- the symbols, after those of values, types and directives

abbrev pub document_symbol : ℕ
document_symbol = shared_symbols

abbrev pub item_symbol : ℕ
item_symbol = document_symbol + 1

abbrev pub schema_symbol : ℕ
schema_symbol = item_symbol + 1

abbrev pub root_type_symbol : ℕ
root_type_symbol = schema_symbol + 1

abbrev pub extension_symbol : ℕ
extension_symbol = root_type_symbol + 1

abbrev pub described_symbol : ℕ
described_symbol = extension_symbol + 1

abbrev pub description_symbol : ℕ
description_symbol = described_symbol + 1

abbrev pub type_body_symbol : ℕ
type_body_symbol = description_symbol + 1

abbrev pub scalar_symbol : ℕ
scalar_symbol = type_body_symbol + 1

abbrev pub object_symbol : ℕ
object_symbol = scalar_symbol + 1

abbrev pub interface_symbol : ℕ
interface_symbol = object_symbol + 1

abbrev pub implements_symbol : ℕ
implements_symbol = interface_symbol + 1

abbrev pub fields_symbol : ℕ
fields_symbol = implements_symbol + 1

abbrev pub field_symbol : ℕ
field_symbol = fields_symbol + 1

abbrev pub argument_definitions_symbol : ℕ
argument_definitions_symbol = field_symbol + 1

abbrev pub input_value_symbol : ℕ
input_value_symbol = argument_definitions_symbol + 1

abbrev pub union_symbol : ℕ
union_symbol = input_value_symbol + 1

abbrev pub members_symbol : ℕ
members_symbol = union_symbol + 1

abbrev pub enum_symbol : ℕ
enum_symbol = members_symbol + 1

abbrev pub enum_values_symbol : ℕ
enum_values_symbol = enum_symbol + 1

abbrev pub enum_value_symbol : ℕ
enum_value_symbol = enum_values_symbol + 1

abbrev pub input_symbol : ℕ
input_symbol = enum_value_symbol + 1

abbrev pub input_fields_symbol : ℕ
input_fields_symbol = input_symbol + 1

abbrev pub directive_definition_symbol : ℕ
directive_definition_symbol = input_fields_symbol + 1

abbrev pub locations_symbol : ℕ
locations_symbol = directive_definition_symbol + 1

abbrev pub location_symbol : ℕ
location_symbol = locations_symbol + 1

abbrev pub schema_extension_symbol : ℕ
schema_extension_symbol = location_symbol + 1

abbrev pub roots_symbol : ℕ
roots_symbol = schema_extension_symbol + 1

-- ---- single tokens

-- A token has a value as a leaf of this class. A location has one if its name is a directive location: `Except k []` is
-- `location_class`.
abbrev pub is_good : Class → Token → Bool
is_good (Except k []) t = is_location t.spelling
is_good c t = leaves.is_good c t

-- ---- the productions

-- SchemaDocument = SchemaItem+
abbrev pub document_rule : Expr
document_rule = some_of (Sym item_symbol)

-- SchemaItem = Description? Schema | Extension | Described
abbrev pub item_rule : Expr
item_rule = Either (Then (optional (Sym description_symbol)) (Sym schema_symbol))
    (Either (Sym extension_symbol) (Sym described_symbol))

-- Schema = "schema" Directives "{" RootType* "}"
abbrev pub schema_rule : Expr
schema_rule =
    Then (word (codes "schema")) (Then (Sym directives_symbol)
    (Then (punctuator (codes "{")) (Then (Many (Sym root_type_symbol)) (punctuator (codes "}")))))

-- RootType = Name ":" Name
abbrev pub root_type_rule : Expr
root_type_rule = Then name (Then (punctuator (codes ":")) name)

-- Extension = "extend" TypeBody | "extend" SchemaExt
abbrev pub extension_rule : Expr
extension_rule = Either (Then (word (codes "extend")) (Sym type_body_symbol))
    (Then (word (codes "extend")) (Sym schema_extension_symbol))

-- SchemaExt = "schema" Directives Roots?
abbrev pub schema_extension_rule : Expr
schema_extension_rule = Then (word (codes "schema")) (Then (Sym directives_symbol) (optional (Sym roots_symbol)))

-- Roots = "{" RootType+ "}"
abbrev pub roots_rule : Expr
roots_rule = Then (punctuator (codes "{")) (Then (some_of (Sym root_type_symbol)) (punctuator (codes "}")))

-- Described = Description? TypeBody | Description? DirectiveDef
abbrev pub described_rule : Expr
described_rule =
    Either (Then (optional (Sym description_symbol)) (Sym type_body_symbol))
    (Then (optional (Sym description_symbol)) (Sym directive_definition_symbol))

-- Description = String | Block
abbrev pub description_rule : Expr
description_rule = Either (One (any StringValue)) (One (any BlockString))

-- TypeBody = Scalar | Object | Interface | Union | Enum | Input
abbrev pub type_body_rule : Expr
type_body_rule =
    Either (Sym scalar_symbol) (Either (Sym object_symbol) (Either (Sym interface_symbol)
    (Either (Sym union_symbol) (Either (Sym enum_symbol) (Sym input_symbol)))))

-- Scalar = "scalar" Name Directives
abbrev pub scalar_rule : Expr
scalar_rule = Then (word (codes "scalar")) (Then name (Sym directives_symbol))

-- Object = "type" Name Implements? Directives Fields?
abbrev pub object_rule : Expr
object_rule = Then (word (codes "type"))
    (Then name (Then (optional (Sym implements_symbol)) (Then (Sym directives_symbol) (optional (Sym fields_symbol)))))

-- Interface = "interface" Name Implements? Directives Fields?
abbrev pub interface_rule : Expr
interface_rule =
    Then (word (codes "interface"))
    (Then name (Then (optional (Sym implements_symbol)) (Then (Sym directives_symbol) (optional (Sym fields_symbol)))))

-- an expression, once or more, separated by a punctuator, which can also precede the first
abbrev pub joined_by : List ℕ → Expr → Expr
joined_by s e = Then (optional (punctuator s)) (Then e (Many (Then (punctuator s) e)))

-- Implements = "implements" "&"? Name ("&" Name)*
abbrev pub implements_rule : Expr
implements_rule = Then (word (codes "implements")) (joined_by (codes "&") name)

-- Fields = "{" FieldDef+ "}"
abbrev pub fields_rule : Expr
fields_rule = Then (punctuator (codes "{")) (Then (some_of (Sym field_symbol)) (punctuator (codes "}")))

-- FieldDef = Description? Name ArgumentDefs? ":" Type Directives
abbrev pub field_rule : Expr
field_rule =
    Then (optional (Sym description_symbol)) (Then name (Then (optional (Sym argument_definitions_symbol))
    (Then (punctuator (codes ":")) (Then (Sym type_symbol) (Sym directives_symbol)))))

-- ArgumentDefs = "(" InputValue+ ")"
abbrev pub argument_definitions_rule : Expr
argument_definitions_rule =
    Then (punctuator (codes "(")) (Then (some_of (Sym input_value_symbol)) (punctuator (codes ")")))

-- InputValue = Description? Name ":" Type Default? Directives
abbrev pub input_value_rule : Expr
input_value_rule =
    Then (optional (Sym description_symbol)) (Then name (Then (punctuator (codes ":")) (Then (Sym type_symbol)
    (Then (optional (Sym default_symbol)) (Sym directives_symbol)))))

-- Union = "union" Name Directives Members?
abbrev pub union_rule : Expr
union_rule = Then (word (codes "union")) (Then name (Then (Sym directives_symbol) (optional (Sym members_symbol))))

-- Members = "=" "|"? Name ("|" Name)*
abbrev pub members_rule : Expr
members_rule = Then (punctuator (codes "=")) (joined_by (codes "|") name)

-- Enum = "enum" Name Directives EnumValues?
abbrev pub enum_rule : Expr
enum_rule = Then (word (codes "enum")) (Then name (Then (Sym directives_symbol) (optional (Sym enum_values_symbol))))

-- EnumValues = "{" EnumValue+ "}"
abbrev pub enum_values_rule : Expr
enum_values_rule = Then (punctuator (codes "{")) (Then (some_of (Sym enum_value_symbol)) (punctuator (codes "}")))

-- EnumValue = Description? Name Directives
abbrev pub enum_value_rule : Expr
enum_value_rule = Then (optional (Sym description_symbol)) (Then name (Sym directives_symbol))

-- Input = "input" Name Directives InputFields?
abbrev pub input_rule : Expr
input_rule = Then (word (codes "input")) (Then name (Then (Sym directives_symbol) (optional (Sym input_fields_symbol))))

-- InputFields = "{" InputValue+ "}"
abbrev pub input_fields_rule : Expr
input_fields_rule = Then (punctuator (codes "{")) (Then (some_of (Sym input_value_symbol)) (punctuator (codes "}")))

-- DirectiveDef = "directive" "@" Name ArgumentDefs? "repeatable"? "on" Locations
abbrev pub directive_definition_rule : Expr
directive_definition_rule =
    Then (word (codes "directive"))
    (Then (punctuator (codes "@")) (Then name (Then (optional (Sym argument_definitions_symbol))
    (Then (optional (word (codes "repeatable"))) (Then (word (codes "on")) (Sym locations_symbol))))))

-- Locations = "|"? Location ("|" Location)*
abbrev pub locations_rule : Expr
locations_rule = joined_by (codes "|") (Sym location_symbol)

-- Location = Name
abbrev pub location_rule : Expr
location_rule = One location_class

abbrev pub rules : List Expr
rules =
    document_rule ∷ item_rule ∷ schema_rule ∷ root_type_rule ∷ extension_rule
    ∷ described_rule ∷ description_rule ∷ type_body_rule ∷ scalar_rule ∷ object_rule ∷ interface_rule
    ∷ implements_rule ∷ fields_rule ∷ field_rule ∷ argument_definitions_rule ∷ input_value_rule
    ∷ union_rule ∷ members_rule ∷ enum_rule ∷ enum_values_rule ∷ enum_value_rule ∷ input_rule ∷ input_fields_rule
    ∷ directive_definition_rule ∷ locations_rule ∷ location_rule ∷ schema_extension_rule ∷ roots_rule ∷ []

-- ---- checks of nodes

-- which nodes of a symbol are accepted
abbrev pub passes : ℕ → ParseTree → Bool
passes k x =
    if k == schema_symbol then not (is_some (root_fault_of x))
    else if k == extension_symbol then extends (extension_of (Node k x))
    else if k == schema_extension_symbol then not (is_some (extension_fault_of x))
    else true

-- ---- the grammar

abbrev pub samples : List Token
samples =
    shared.samples
    ++ sample Name (codes "schema") ∷ sample Name (codes "extend") ∷ sample Name (codes "scalar")
    ∷ sample Name (codes "type") ∷ sample Name (codes "interface") ∷ sample Name (codes "implements")
    ∷ sample Name (codes "union") ∷ sample Name (codes "enum") ∷ sample Name (codes "input")
    ∷ sample Name (codes "directive") ∷ sample Name (codes "repeatable") ∷ sample Name (codes "on")
    ∷ sample Name (codes "FIELD") ∷ sample Punctuator (codes "&") ∷ sample Punctuator (codes "|") ∷ []

-- the written grammar
abbrev pub schema_grammar : Grammar
schema_grammar =
    record { rows = shared.rows ++ with_tables rules []; good = is_good; check = passes; samples = samples }
