-- What each symbol of the program derives: an expression of the grammar.
use Rattle.std.specs.Prelude.{ℕ, List, [], ◌∷◌, codes}
use Rattle.graphql_core.specs.{Expr, Then, Many, Sym, name, word, punctuator, optional}
use Rattle.graphql_standard.specs.Symbols as symbol
use Rattle.graphql_standard.specs.declared.symbol.Symbol.{Symbol}
use Rattle.graphql_standard.specs.declared.symbol.Symbol.TheVariants as program

-- any number of them, and what closes them
abbrev pub more_and : Expr → List ℕ → Expr
more_and e s = Then (Many e) (punctuator s)

-- at least one
abbrev pub some_and : Expr → List ℕ → Expr
some_and e s = Then e (more_and e s)

abbrev pub means : Symbol → Expr
means program.Document = Sym symbol.document
means program.Definitions = optional (Sym symbol.definitions)
means program.DescribedDefinitions = Sym symbol.described_definitions
means program.FieldsThenDefinitions = Sym symbol.fields_then_definitions
means program.EnumValuesThenDefinitions = Sym symbol.enum_values_then_definitions
means program.InputFieldsThenDefinitions = Sym symbol.input_fields_then_definitions
means program.RootOperationTypesThenDefinitions = Sym symbol.root_operation_types_then_definitions
means program.ExtensionThenDefinitions = Sym symbol.extension_then_definitions
means program.SchemaExtension = Sym symbol.schema_extension
means program.ObjectExtension = Sym symbol.object_extension
means program.UnionExtension = Then (Sym symbol.union_extension) (optional (Sym symbol.definitions))
means program.EnumExtension = Sym symbol.enum_extension
means program.InputObjectExtension = Sym symbol.input_object_extension
means program.OperationName = optional name
means program.VariablesDefinition = optional (Sym symbol.variables_definition)
means program.FirstVariableDefinition = some_and (Sym symbol.variable_definition) (codes ")")
means program.MoreVariableDefinitions = more_and (Sym symbol.variable_definition) (codes ")")
means program.Directives = optional (Sym symbol.directives)
means program.MoreDirectives = Many (Sym symbol.directive)
means program.ConstDirectives = optional (Sym symbol.const_directives)
means program.MoreConstDirectives = Many (Sym symbol.const_directive)
means program.SomeConstDirectives = Sym symbol.const_directives
means program.Arguments = optional (Sym symbol.arguments)
means program.FirstArgument = some_and (Sym symbol.argument) (codes ")")
means program.MoreArguments = more_and (Sym symbol.argument) (codes ")")
means program.ConstArguments = optional (Sym symbol.const_arguments)
means program.FirstConstArgument = some_and (Sym symbol.const_argument) (codes ")")
means program.MoreConstArguments = more_and (Sym symbol.const_argument) (codes ")")
means program.Value = Sym symbol.value
means program.MoreValues = more_and (Sym symbol.value) (codes "]")
means program.MoreObjectFields = more_and (Sym symbol.object_field) (codes "}")
means program.ConstValue = Sym symbol.const_value
means program.MoreConstValues = more_and (Sym symbol.const_value) (codes "]")
means program.MoreConstObjectFields = more_and (Sym symbol.const_object_field) (codes "}")
means program.«Type» = Sym symbol.type
means program.NonNull = optional (punctuator (codes "!"))
means program.DefaultValue = optional (Sym symbol.default_value)
means program.SelectionSet = Sym symbol.selection_set
means program.OptionalSelectionSet = optional (Sym symbol.selection_set)
means program.FirstSelection = some_and (Sym symbol.selection) (codes "}")
means program.MoreSelections = more_and (Sym symbol.selection) (codes "}")
means program.AliasedName = optional (Sym symbol.aliased_name)
means program.Fragment = Sym symbol.fragment
means program.FragmentName = Sym symbol.fragment_name
means program.RootOperationTypes = Sym symbol.root_operation_types
means program.FirstRootOperationType = some_and (Sym symbol.root_operation_type_definition) (codes "}")
means program.MoreRootOperationTypes = more_and (Sym symbol.root_operation_type_definition) (codes "}")
means program.ImplementsInterfaces = optional (Sym symbol.implements_interfaces)
means program.FirstInterface =
    Then (optional (punctuator (codes "&"))) (Then name (Many (Then (punctuator (codes "&")) (Sym symbol.named_type))))
means program.MoreInterfaces = Many (Then (punctuator (codes "&")) (Sym symbol.named_type))
means program.FirstFieldDefinition = some_and (Sym symbol.field_definition) (codes "}")
means program.MoreFieldDefinitions = more_and (Sym symbol.field_definition) (codes "}")
means program.ArgumentsDefinition = optional (Sym symbol.arguments_definition)
means program.FirstArgumentDefinition = some_and (Sym symbol.input_value_definition) (codes ")")
means program.MoreArgumentDefinitions = more_and (Sym symbol.input_value_definition) (codes ")")
means program.FirstInputField = some_and (Sym symbol.input_value_definition) (codes "}")
means program.MoreInputFields = more_and (Sym symbol.input_value_definition) (codes "}")
means program.UnionMemberTypes = optional (Sym symbol.union_member_types)
means program.FirstMemberType =
    Then (optional (punctuator (codes "|"))) (Then name (Many (Then (punctuator (codes "|")) (Sym symbol.named_type))))
means program.MoreMemberTypes = Many (Then (punctuator (codes "|")) (Sym symbol.named_type))
means program.FirstEnumValue = some_and (Sym symbol.enum_value_definition) (codes "}")
means program.MoreEnumValues = more_and (Sym symbol.enum_value_definition) (codes "}")
means program.EnumValue = Sym symbol.enum_value
means program.Repeatable = optional (word (codes "repeatable"))
means program.DirectiveLocations = Sym symbol.directive_locations
means program.MoreDirectiveLocations = Many (Then (punctuator (codes "|")) (Sym symbol.directive_location))
means program.DirectiveLocation = Sym symbol.directive_location
means program.Name = name
means program.On = word (codes "on")
means program.Colon = punctuator (codes ":")
means program.Dollar = punctuator (codes "$")
means program.At = punctuator (codes "@")
means program.CloseBracket = punctuator (codes "]")

-- of several symbols, one after another
abbrev pub means_all : List Symbol → List Expr
means_all [] = []
means_all (s ∷ ss) = means s ∷ means_all ss
