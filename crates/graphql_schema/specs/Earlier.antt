-- The language of schemas of version 0.4.1: schemas have no descriptions and no extensions.
use Rattle.std.specs.Prelude.{◌≡◌, ◌-◌, ℕ, List, [], ◌++◌, codes, take, None}
use Rattle.graphql_core.specs.{Grammar, Expr, Then, Either, Sym, with_rule, with_tables, shared_symbols, word, Language}
use Rattle.std.specs.List.{AllByRecursion}
use Rattle.graphql_schema.specs.Grammar.{schema_grammar, rules, item_symbol, schema_symbol, extension_symbol}
use Rattle.graphql_schema.specs.Grammar.{described_symbol, type_body_symbol, schema_extension_symbol}
use Rattle.graphql_schema.specs.Tree.{DefinitionTree, schema, schema_extension, DocumentTree}
use Rattle.graphql_schema.specs.Language.{schemas}
use Rattle.graphql_core.specs.values.Grammar as shared
use Rattle.graphql_core.specs.documents.Document as document

-- SchemaItem = Schema | Extension | Described
abbrev pub item_rule_0_4_1 : Expr
item_rule_0_4_1 = Either (Sym schema_symbol) (Either (Sym extension_symbol) (Sym described_symbol))

-- Extension = "extend" TypeBody
abbrev pub extension_rule_0_4_1 : Expr
extension_rule_0_4_1 = Then (word (codes "extend")) (Sym type_body_symbol)

-- The other productions are the same. The last two are left out: only extensions of the schema use them.
abbrev pub rules_0_4_1 : List Expr
rules_0_4_1 =
    take (schema_extension_symbol - shared_symbols)
    (with_rule item_symbol item_rule_0_4_1 (with_rule extension_symbol extension_rule_0_4_1 rules))

abbrev pub schema_0_4_1 : Grammar
schema_0_4_1 =
    record {
      rows = shared.rows ++ with_tables rules_0_4_1 [];
      good = schema_grammar.good;
      check = schema_grammar.check;
      samples = schema_grammar.samples;
    }

-- no input is parsed by this grammar, so the factored rules are ignored
abbrev pub schemas_0_4_1 : Language DocumentTree
schemas_0_4_1 = record schemas { grammar = schema_0_4_1 }

-- the input parses to this document in version 0.4.1
abbrev pub IsDocumentOf_0_4_1 : List ℕ → DocumentTree → Type 0
IsDocumentOf_0_4_1 = document.IsDocumentOf schemas_0_4_1

-- the parts that were added since are absent: descriptions of schemas, and extensions of the schema
abbrev pub HasNoNewPart : DefinitionTree → Type 0
HasNoNewPart (schema d s) = d ≡ None
HasNoNewPart (schema_extension s) = ⊥
HasNoNewPart _ = Unit {0}

abbrev pub HasNoNewParts : DocumentTree → Type 0
HasNoNewParts = AllByRecursion HasNoNewPart
