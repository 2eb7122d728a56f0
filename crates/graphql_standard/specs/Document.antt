-- The grammar as the specification writes it: the productions that Grammar.antt factors, and documents as Definition+
-- with `[lookahead != {]` as a condition on the next token. A recognizer reads by `standard`, which has the same
-- documents.
use Rattle.std.specs.Prelude.{◌≡◌, ◌⊎◌, ℕ, Bool, true, false, List, [], ◌∷◌, ◌++◌, codes}
use Rattle.graphql_core.specs.{Token, Class, Expr, Then, Either, Sym, ParseTree, Grammar, peek, optional, some_of, word}
use Rattle.graphql_core.specs.{name, punctuator, punctuator_class, sees, with_tables}
use Rattle.graphql_core.specs.grammar.Trees.{Derives}
use Rattle.graphql_standard.specs.Symbols as symbol
use Rattle.graphql_standard.specs.Grammar as grammar

-- ---- the productions that Grammar.antt factors

-- Selection = Field | FragmentSpread | InlineFragment
-- FragmentSpread = "..." FragmentName Directives?
-- InlineFragment = "..." TypeCondition? Directives? SelectionSet
abbrev written_selection : Expr
written_selection =
    Either (Sym symbol.field)
    (Either (Then (punctuator (codes "...")) (Then (Sym symbol.fragment_name) (optional (Sym symbol.directives))))
    (Then (punctuator (codes "...")) (Then (optional (Sym symbol.type_condition))
    (Then (optional (Sym symbol.directives)) (Sym symbol.selection_set)))))

-- Field = Alias? Name Arguments? Directives? SelectionSet?
-- Alias = Name ":"
abbrev written_field : Expr
written_field =
    Then (optional (Then name (punctuator (codes ":")))) (Then name (Then (optional (Sym symbol.arguments))
    (Then (optional (Sym symbol.directives)) (optional (Sym symbol.selection_set)))))

-- Type = NamedType | ListType | NonNullType
-- NonNullType = NamedType "!" | ListType "!"
abbrev written_type : Expr
written_type =
    Either (Sym symbol.named_type) (Either (Sym symbol.list_type)
    (Either (Then (Sym symbol.named_type) (punctuator (codes "!")))
    (Then (Sym symbol.list_type) (punctuator (codes "!")))))

-- the brackets with nothing in them, or with at least one
abbrev empty_or_some : List ℕ → Expr → List ℕ → Expr
empty_or_some opener e closer =
    Either (Then (punctuator opener) (punctuator closer))
    (Then (punctuator opener) (Then (some_of e) (punctuator closer)))

-- ListValue = "[" "]" | "[" Value+ "]"
abbrev written_list_value : Expr
written_list_value = empty_or_some (codes "[") (Sym symbol.value) (codes "]")

abbrev written_const_list_value : Expr
written_const_list_value = empty_or_some (codes "[") (Sym symbol.const_value) (codes "]")

-- ObjectValue = "{" "}" | "{" ObjectField+ "}"
abbrev written_object_value : Expr
written_object_value = empty_or_some (codes "{") (Sym symbol.object_field) (codes "}")

abbrev written_const_object_value : Expr
written_const_object_value = empty_or_some (codes "{") (Sym symbol.const_object_field) (codes "}")

-- ImplementsInterfaces = ImplementsInterfaces "&" NamedType | "implements" "&"? NamedType
abbrev written_implements_interfaces : Expr
written_implements_interfaces =
    Either (Then (Sym symbol.implements_interfaces) (Then (punctuator (codes "&")) (Sym symbol.named_type)))
    (Then (word (codes "implements")) (Then (optional (punctuator (codes "&"))) (Sym symbol.named_type)))

-- UnionMemberTypes = UnionMemberTypes "|" NamedType | "=" "|"? NamedType
abbrev written_union_member_types : Expr
written_union_member_types =
    Either (Then (Sym symbol.union_member_types) (Then (punctuator (codes "|")) (Sym symbol.named_type)))
    (Then (punctuator (codes "=")) (Then (optional (punctuator (codes "|"))) (Sym symbol.named_type)))

-- DirectiveLocations = DirectiveLocations "|" DirectiveLocation | "|"? DirectiveLocation
abbrev written_directive_locations : Expr
written_directive_locations =
    Either (Then (Sym symbol.directive_locations) (Then (punctuator (codes "|")) (Sym symbol.directive_location)))
    (Then (optional (punctuator (codes "|"))) (Sym symbol.directive_location))

-- the other rules are those of Grammar.antt
abbrev pub written_rules : List Expr
written_rules =
    grammar.document_rule ∷ grammar.definitions_rule ∷ grammar.other_definitions_rule
    ∷ grammar.described_definitions_rule ∷ grammar.fields_then_definitions_rule
    ∷ grammar.enum_values_then_definitions_rule ∷ grammar.input_fields_then_definitions_rule
    ∷ grammar.root_operation_types_then_definitions_rule ∷ grammar.extension_then_definitions_rule
    ∷ grammar.schema_extension_rule ∷ grammar.object_extension_rule ∷ grammar.enum_extension_rule
    ∷ grammar.input_object_extension_rule ∷ grammar.union_extension_rule ∷ grammar.description_rule
    ∷ grammar.operation_definition_rule ∷ grammar.operation_type_rule ∷ grammar.selection_set_rule
    ∷ written_selection ∷ written_field ∷ grammar.aliased_name_rule ∷ grammar.arguments_rule
    ∷ grammar.argument_rule ∷ grammar.fragment_rule ∷ grammar.fragment_definition_rule
    ∷ grammar.fragment_name_rule ∷ grammar.type_condition_rule ∷ grammar.value_rule ∷ grammar.const_value_rule
    ∷ grammar.string_value_rule ∷ grammar.boolean_value_rule ∷ grammar.null_value_rule ∷ grammar.enum_value_rule
    ∷ written_list_value ∷ written_const_list_value ∷ written_object_value ∷ grammar.object_field_rule
    ∷ written_const_object_value ∷ grammar.const_object_field_rule ∷ grammar.variables_definition_rule
    ∷ grammar.variable_definition_rule ∷ grammar.variable_rule ∷ grammar.default_value_rule ∷ written_type
    ∷ grammar.named_type_rule ∷ grammar.list_type_rule ∷ grammar.directives_rule ∷ grammar.directive_rule
    ∷ grammar.const_directives_rule ∷ grammar.const_directive_rule ∷ grammar.const_arguments_rule
    ∷ grammar.const_argument_rule ∷ grammar.schema_definition_rule ∷ grammar.root_operation_types_rule
    ∷ grammar.root_operation_type_definition_rule ∷ grammar.scalar_type_definition_rule
    ∷ grammar.object_type_head_rule ∷ written_implements_interfaces ∷ grammar.fields_definition_rule
    ∷ grammar.field_definition_rule ∷ grammar.arguments_definition_rule ∷ grammar.input_value_definition_rule
    ∷ grammar.interface_type_head_rule ∷ grammar.union_type_definition_rule ∷ written_union_member_types
    ∷ grammar.enum_type_head_rule ∷ grammar.enum_values_definition_rule ∷ grammar.enum_value_definition_rule
    ∷ grammar.input_object_type_head_rule ∷ grammar.input_fields_definition_rule
    ∷ grammar.directive_definition_rule ∷ written_directive_locations ∷ grammar.directive_location_rule ∷ []

abbrev pub written : Grammar
written =
    record { rows = with_tables written_rules []; good = grammar.is_good; check = λ k x. true; samples = [] }

-- an alternative of a definition, and whether it ends with `[lookahead != {]`
pub record Alternative : Type 0 where
  pub rule : Expr
  pub has_lookahead : Bool

abbrev plain : Expr → Alternative
plain e = record { rule = e; has_lookahead = false }

abbrev unless_brace : Expr → Alternative
unless_brace e = record { rule = e; has_lookahead = true }

abbrev described : Expr → Expr
described e = Then (optional (Sym symbol.description)) e

-- `extend`, a keyword, a name and this
abbrev extended : List ℕ → Expr → Expr
extended keyword e = Then (word (codes "extend")) (Then (word keyword) (Then name e))

abbrev directives : Expr
directives = Sym symbol.const_directives

-- with directives before it, or without
abbrev directed : Expr → Expr
directed e = Then (optional directives) e

-- with implemented interfaces before it, or without
abbrev implementing : Expr → Expr
implementing e = Then (optional (Sym symbol.implements_interfaces)) e

-- ---- Definition (Document, Type System, Type System Extensions)

abbrev pub definitions : List Alternative
definitions =
    -- ExecutableDefinition: OperationDefinition, FragmentDefinition
    plain (Sym symbol.selection_set)
    ∷ plain (described (Sym symbol.operation_definition))
    ∷ plain (described (Sym symbol.fragment_definition))
    -- SchemaDefinition, ScalarTypeDefinition
    ∷ plain (described (Sym symbol.schema_definition))
    ∷ plain (described (Sym symbol.scalar_type_definition))
    -- ObjectTypeDefinition
    ∷ plain (described (Then (Sym symbol.object_type_head) (Sym symbol.fields_definition)))
    ∷ unless_brace (described (Sym symbol.object_type_head))
    -- InterfaceTypeDefinition
    ∷ plain (described (Then (Sym symbol.interface_type_head) (Sym symbol.fields_definition)))
    ∷ unless_brace (described (Sym symbol.interface_type_head))
    -- UnionTypeDefinition
    ∷ plain (described (Sym symbol.union_type_definition))
    -- EnumTypeDefinition
    ∷ plain (described (Then (Sym symbol.enum_type_head) (Sym symbol.enum_values_definition)))
    ∷ unless_brace (described (Sym symbol.enum_type_head))
    -- InputObjectTypeDefinition
    ∷ plain (described (Then (Sym symbol.input_object_type_head) (Sym symbol.input_fields_definition)))
    ∷ unless_brace (described (Sym symbol.input_object_type_head))
    -- DirectiveDefinition
    ∷ plain (described (Sym symbol.directive_definition))
    -- SchemaExtension
    ∷ plain (Then (word (codes "extend"))
    (Then (word (codes "schema")) (directed (Sym symbol.root_operation_types))))
    ∷ unless_brace (Then (word (codes "extend")) (Then (word (codes "schema")) directives))
    -- ScalarTypeExtension
    ∷ plain (extended (codes "scalar") directives)
    -- ObjectTypeExtension
    ∷ plain (extended (codes "type") (implementing (directed (Sym symbol.fields_definition))))
    ∷ unless_brace (extended (codes "type") (implementing directives))
    ∷ unless_brace (extended (codes "type") (Sym symbol.implements_interfaces))
    -- InterfaceTypeExtension
    ∷ plain (extended (codes "interface")
    (implementing (directed (Sym symbol.fields_definition))))
    ∷ unless_brace (extended (codes "interface") (implementing directives))
    ∷ unless_brace (extended (codes "interface") (Sym symbol.implements_interfaces))
    -- UnionTypeExtension
    ∷ plain (extended (codes "union") (directed (Sym symbol.union_member_types)))
    ∷ plain (extended (codes "union") directives)
    -- EnumTypeExtension
    ∷ plain (extended (codes "enum") (directed (Sym symbol.enum_values_definition)))
    ∷ unless_brace (extended (codes "enum") directives)
    -- InputObjectTypeExtension
    ∷ plain (extended (codes "input") (directed (Sym symbol.input_fields_definition)))
    ∷ unless_brace (extended (codes "input") directives)
    ∷ []

abbrev pub IsOneOf : Alternative → List Alternative → Type 0
IsOneOf a [] = ⊥
IsOneOf a (b ∷ bs) = (a ≡ b) ⊎ IsOneOf a bs

abbrev pub brace : List Class
brace = punctuator_class (codes "{") ∷ []

-- the tokens `ts` are a definition where the tokens `us` come next
abbrev pub IsDefinition : Grammar → List Token → List Token → Type 0
IsDefinition g ts us =
    (a : Alternative) × (x : ParseTree) × IsOneOf a definitions × Derives g a.rule ts x
    × (a.has_lookahead ≡ true → sees brace (peek us) ≡ false)

-- Definition*
pub data AreDefinitions (g : Grammar) : List Token → Type 0 where
  no_definition : AreDefinitions g []
  more_definitions : {ts us : List Token} → IsDefinition g ts us → AreDefinitions g us → AreDefinitions g (ts ++ us)

-- Document = Definition+
abbrev pub IsDocumentBy : Grammar → List Token → Type 0
IsDocumentBy g ts =
    (front : List Token) × (rest : List Token) × (ts ≡ front ++ rest) × IsDefinition g front rest
    × AreDefinitions g rest

abbrev pub IsDocumentAsWritten : List Token → Type 0
IsDocumentAsWritten ts = IsDocumentBy written ts
