-- The language of queries of version 0.4.1: variable definitions have no directives.
use Rattle.std.specs.Prelude.{◌≡◌, ℕ, List, [], ◌++◌, codes}
use Rattle.graphql_core.specs.{Grammar, Expr, Then, Sym, optional, with_tables, type_symbol, default_symbol, punctuator}
use Rattle.graphql_core.specs.{name, with_rule, Language}
use Rattle.std.specs.List.{AllByRecursion}
use Rattle.graphql_query.specs.Grammar.{query, rules, variable_definition_symbol}
use Rattle.graphql_query.specs.Tree.{VariableDefinitionTree, DefinitionTree, operation, DocumentTree}
use Rattle.graphql_query.specs.Document.{queries}
use Rattle.graphql_core.specs.values.Grammar as shared
use Rattle.graphql_core.specs.documents.Document as document

-- VariableDefinition = "$" Name ":" Type Default?
abbrev pub variable_definition_rule_0_4_1 : Expr
variable_definition_rule_0_4_1 =
    Then (punctuator (codes "$"))
    (Then name (Then (punctuator (codes ":")) (Then (Sym type_symbol) (optional (Sym default_symbol)))))

-- all other productions are the same
abbrev pub rules_0_4_1 : List Expr
rules_0_4_1 = with_rule variable_definition_symbol variable_definition_rule_0_4_1 rules

abbrev pub query_0_4_1 : Grammar
query_0_4_1 = record {
  rows = shared.rows ++ with_tables rules_0_4_1 [];
  good = query.good;
  check = query.check;
  samples = query.samples;
}

-- no input is parsed by this grammar, so the factored rules are ignored
abbrev pub queries_0_4_1 : Language DocumentTree
queries_0_4_1 = record queries { grammar = query_0_4_1 }

-- the input parses to this document in version 0.4.1
abbrev pub IsDocumentOf_0_4_1 : List ℕ → DocumentTree → Type 0
IsDocumentOf_0_4_1 = document.IsDocumentOf queries_0_4_1

-- the parts that were added since are empty

abbrev pub HasNoDirectives : VariableDefinitionTree → Type 0
HasNoDirectives v = v.directives ≡ []

abbrev pub HasNoNewPart : DefinitionTree → Type 0
HasNoNewPart (operation o) = AllByRecursion HasNoDirectives o.variables
HasNoNewPart _ = Unit {0}

abbrev pub HasNoNewParts : DocumentTree → Type 0
HasNoNewParts = AllByRecursion HasNoNewPart
