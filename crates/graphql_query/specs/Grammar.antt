-- The grammar of query documents.
use Rattle.std.specs.Prelude.{ℕ, ◌+◌, true, List, [], ◌∷◌, ◌++◌, codes}
use Rattle.graphql_core.specs.{Token, Class, Except, Expr, One, Then, Either, Sym, optional, some_of, with_tables}
use Rattle.graphql_core.specs.{kind_number, is_good, type_symbol, arguments_symbol, directives_symbol, default_symbol}
use Rattle.graphql_core.specs.{shared_symbols, punctuator, word, sample, Grammar, name}
use Rattle.graphql_core.specs.declared.tokenizer.token.Kind.TheVariants.{Punctuator, Name}
use Rattle.graphql_core.specs.values.Grammar as shared

-- ---- the symbols, after those of values, types and directives

abbrev pub document_symbol : ℕ
document_symbol = shared_symbols

abbrev pub definition_symbol : ℕ
definition_symbol = document_symbol + 1

abbrev pub operation_symbol : ℕ
operation_symbol = definition_symbol + 1

abbrev pub operation_body_symbol : ℕ
operation_body_symbol = operation_symbol + 1

abbrev pub variable_definitions_symbol : ℕ
variable_definitions_symbol = operation_body_symbol + 1

abbrev pub variable_definition_symbol : ℕ
variable_definition_symbol = variable_definitions_symbol + 1

abbrev pub selection_set_symbol : ℕ
selection_set_symbol = variable_definition_symbol + 1

abbrev pub selection_symbol : ℕ
selection_symbol = selection_set_symbol + 1

abbrev pub field_symbol : ℕ
field_symbol = selection_symbol + 1

abbrev pub alias_symbol : ℕ
alias_symbol = field_symbol + 1

abbrev pub fragment_spread_symbol : ℕ
fragment_spread_symbol = alias_symbol + 1

abbrev pub spread_name_symbol : ℕ
spread_name_symbol = fragment_spread_symbol + 1

abbrev pub inline_fragment_symbol : ℕ
inline_fragment_symbol = spread_name_symbol + 1

abbrev pub type_condition_symbol : ℕ
type_condition_symbol = inline_fragment_symbol + 1

abbrev pub fragment_definition_symbol : ℕ
fragment_definition_symbol = type_condition_symbol + 1

-- a name other than `on`
abbrev pub spread_class : Class
spread_class = Except (kind_number Name) (codes "on" ∷ [])

-- ---- the productions

-- QueryDocument = Definition+
abbrev pub document_rule : Expr
document_rule = some_of (Sym definition_symbol)

-- Definition = OperationDefinition | FragmentDefinition
abbrev pub definition_rule : Expr
definition_rule = Either (Sym operation_symbol) (Sym fragment_definition_symbol)

-- OperationDefinition = SelectionSet | "query" OperationBody | "mutation" OperationBody | "subscription" OperationBody
abbrev pub operation_rule : Expr
operation_rule =
    Either (Sym selection_set_symbol)
    (Either (Then (word (codes "query")) (Sym operation_body_symbol))
    (Either (Then (word (codes "mutation")) (Sym operation_body_symbol))
    (Then (word (codes "subscription")) (Sym operation_body_symbol))))

-- OperationBody = Name? VariableDefinitions? Directives SelectionSet
abbrev pub operation_body_rule : Expr
operation_body_rule = Then (optional name)
    (Then (optional (Sym variable_definitions_symbol)) (Then (Sym directives_symbol) (Sym selection_set_symbol)))

-- VariableDefinitions = "(" VariableDefinition+ ")"
abbrev pub variable_definitions_rule : Expr
variable_definitions_rule =
    Then (punctuator (codes "(")) (Then (some_of (Sym variable_definition_symbol)) (punctuator (codes ")")))

-- VariableDefinition = "$" Name ":" Type Default? Directives
abbrev pub variable_definition_rule : Expr
variable_definition_rule = Then (punctuator (codes "$")) (Then name (Then (punctuator (codes ":"))
    (Then (Sym type_symbol) (Then (optional (Sym default_symbol)) (Sym directives_symbol)))))

-- SelectionSet = "{" Selection+ "}"
abbrev pub selection_set_rule : Expr
selection_set_rule = Then (punctuator (codes "{")) (Then (some_of (Sym selection_symbol)) (punctuator (codes "}")))

-- Selection = Field | FragmentSpread | InlineFragment
abbrev pub selection_rule : Expr
selection_rule = Either (Sym field_symbol) (Either (Sym fragment_spread_symbol) (Sym inline_fragment_symbol))

-- Arguments? Directives SelectionSet?
abbrev pub field_rest : Expr
field_rest = Then (optional (Sym arguments_symbol)) (Then (Sym directives_symbol) (optional (Sym selection_set_symbol)))

-- Field = Alias? Name Arguments? Directives SelectionSet?
abbrev pub field_rule : Expr
field_rule = Then (optional (Sym alias_symbol)) (Then name field_rest)

-- Alias = Name ":"
abbrev pub alias_rule : Expr
alias_rule = Then name (punctuator (codes ":"))

-- SpreadName Directives
abbrev pub fragment_spread_rest : Expr
fragment_spread_rest = Then (Sym spread_name_symbol) (Sym directives_symbol)

-- FragmentSpread = "..." SpreadName Directives
abbrev pub fragment_spread_rule : Expr
fragment_spread_rule = Then (punctuator (codes "...")) fragment_spread_rest

-- SpreadName = Name other than "on"
abbrev pub spread_name_rule : Expr
spread_name_rule = One spread_class

-- TypeCondition? Directives SelectionSet
abbrev pub inline_fragment_rest : Expr
inline_fragment_rest =
    Then (optional (Sym type_condition_symbol)) (Then (Sym directives_symbol) (Sym selection_set_symbol))

-- InlineFragment = "..." TypeCondition? Directives SelectionSet
abbrev pub inline_fragment_rule : Expr
inline_fragment_rule = Then (punctuator (codes "...")) inline_fragment_rest

-- TypeCondition = "on" Name
abbrev pub type_condition_rule : Expr
type_condition_rule = Then (word (codes "on")) name

-- FragmentDefinition = "fragment" Name TypeCondition Directives SelectionSet
abbrev pub fragment_definition_rule : Expr
fragment_definition_rule = Then (word (codes "fragment"))
    (Then name (Then (Sym type_condition_symbol) (Then (Sym directives_symbol) (Sym selection_set_symbol))))

abbrev pub rules : List Expr
rules =
    document_rule ∷ definition_rule ∷ operation_rule ∷ operation_body_rule ∷ variable_definitions_rule
    ∷ variable_definition_rule ∷ selection_set_rule ∷ selection_rule ∷ field_rule ∷ alias_rule ∷ fragment_spread_rule
    ∷ spread_name_rule ∷ inline_fragment_rule ∷ type_condition_rule ∷ fragment_definition_rule ∷ []

abbrev pub samples : List Token
samples =
    shared.samples
    ++ sample Name (codes "query") ∷ sample Name (codes "mutation") ∷ sample Name (codes "subscription")
    ∷ sample Name (codes "fragment") ∷ sample Name (codes "on") ∷ sample Punctuator (codes "...") ∷ []

-- the written grammar: every literal has a value, and no node is rejected
abbrev pub query : Grammar
query = record { rows = shared.rows ++ with_tables rules []; good = is_good; check = λ k x. true; samples = samples }
