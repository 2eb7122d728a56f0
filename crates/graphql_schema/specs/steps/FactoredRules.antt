-- The rules that the parser follows, with one token of lookahead. They have the parse trees of the written ones.
use Rattle.std.specs.Prelude.{ℕ, zero, suc, ◌+◌, Bool, ◌&&◌, if◌then◌else◌, codes, List, [], ◌∷◌, ◌++◌, drop, length}
use Rattle.std.specs.Prelude.{replicate}
use Rattle.graphql_core.specs.{is_row, out_of_head, out_of_sides, Token, Class, matches, Expr, Then, Either, Sym}
use Rattle.graphql_core.specs.{ParseTree, Nothing, Leaf, Both, First, Second, Stop, More, Node, Row, optional, solve}
use Rattle.graphql_core.specs.{with_tables, Change, replaced, unchanged, with_rule, directives_symbol, directive_symbol}
use Rattle.graphql_core.specs.{shared_symbols, word, sample}
use Rattle.graphql_core.specs.declared.tokenizer.token.Kind.TheVariants.{Punctuator, Name}
use Rattle.graphql_core.specs.values.Grammar as shared
use Rattle.graphql_schema.specs.Grammar.{item_symbol, schema_symbol, extension_symbol, described_symbol}
use Rattle.graphql_schema.specs.Grammar.{description_symbol, type_body_symbol, scalar_symbol}
use Rattle.graphql_schema.specs.Grammar.{directive_definition_symbol, schema_extension_symbol, is_good, rules, samples}

-- an optional description and then a schema, a type or a directive definition; or an extension
abbrev pub item_factored : Expr
item_factored =
    Either (Then (optional (Sym description_symbol)) (Either (Sym schema_symbol)
    (Either (Sym type_body_symbol) (Sym directive_definition_symbol)))) (Sym extension_symbol)

-- `extend`, and then a type or an extension of the schema
abbrev pub extension_factored : Expr
extension_factored = Then (word (codes "extend")) (Either (Sym type_body_symbol) (Sym schema_extension_symbol))

-- an optional description, and then a type or a directive definition
abbrev pub described_factored : Expr
described_factored =
    Then (optional (Sym description_symbol)) (Either (Sym type_body_symbol) (Sym directive_definition_symbol))

abbrev pub factored_rules : List Expr
factored_rules =
    with_rule item_symbol item_factored
    (with_rule extension_symbol extension_factored (with_rule described_symbol described_factored rules))

-- `extend scalar a @a`: the parse tree of an accepted extension
abbrev pub least_extension : ParseTree
least_extension =
    Both (Leaf (sample Name (codes "extend")))
    (First (Node type_body_symbol
    (First (Node scalar_symbol (Both (Leaf (sample Name (codes "scalar"))) (Both (Leaf (sample Name (codes "a")))
    (Node directives_symbol (More (Node directive_symbol (Both (Leaf (sample Punctuator (codes "@")))
    (Both (Leaf (sample Name (codes "a"))) (Second Nothing)))) Stop))))))))

-- `schema`: the parse tree of what follows `extend`, without operations
abbrev pub least_schema_extension : ParseTree
least_schema_extension =
    Both (Leaf (sample Name (codes "schema"))) (Both (Node directives_symbol Stop) (Second Nothing))

-- the rows, with another least tree for the n-th symbol
abbrev pub with_least : ℕ → ParseTree → List Row → List Row
with_least n x [] = []
with_least zero x (r ∷ rs) =
    record { rule = r.rule; nullable = r.nullable; first = r.first; cont = r.cont; rank = r.rank; least = x } ∷ rs
with_least (suc n) x (r ∷ rs) = r ∷ with_least n x rs

-- the test of leaves with which the tables are computed
abbrev pub takes : Class → Token → Bool
takes c t = matches c t && is_good c t

unfoldable pub tables : List Row
tables =
    drop shared_symbols (with_least extension_symbol least_extension
    (with_least schema_extension_symbol least_schema_extension
    (solve takes samples 12 (shared.rules ++ factored_rules))))

abbrev pub factored_rows : List Row
factored_rows = shared.rows ++ with_tables factored_rules tables

-- how parse trees of the factored rules become parse trees of the written ones
abbrev pub changes : List Change
changes =
    replaced item_symbol (out_of_sides described_symbol)
    (replaced extension_symbol out_of_head
    (replaced described_symbol out_of_head (replicate (shared_symbols + length rules) unchanged)))

-- ---- why there are factored rules

-- the written rules, with computed tables
abbrev pub written_rows : List Row
written_rows = solve takes samples 12 (shared.rules ++ rules)

-- the symbols from the n-th on whose rules cannot be parsed with one token of lookahead
abbrev pub unread : List Row → ℕ → List Row → List ℕ
unread all n [] = []
unread all n (r ∷ rs) = if is_row all r then unread all (n + 1) rs else n ∷ unread all (n + 1) rs
