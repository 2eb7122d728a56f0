-- The rules that the parser follows, with one token of lookahead. They have the parse trees of the written ones.
use Rattle.std.specs.Prelude.{◌+◌, List, ◌++◌, codes, length, drop, replicate}
use Rattle.graphql_core.specs.{in_second, out_of_symbols, out_of_prefix, with_rows, matches, Expr, Then, Either, Sym}
use Rattle.graphql_core.specs.{Row, optional, solve, with_tables, Change, unchanged, replaced, shared_symbols}
use Rattle.graphql_core.specs.{with_rule, punctuator, Grammar, name}
use Rattle.graphql_core.specs.values.Grammar as shared
use Rattle.graphql_query.specs.Grammar.{selection_symbol, field_symbol, alias_symbol, fragment_spread_symbol}
use Rattle.graphql_query.specs.Grammar.{inline_fragment_symbol, field_rest, fragment_spread_rest, inline_fragment_rest}
use Rattle.graphql_query.specs.Grammar.{rules, samples, query}

-- a field, or "..." and then the rest of a spread or of an inline fragment
abbrev pub selection_factored : Expr
selection_factored =
    Either (Sym field_symbol) (Then (punctuator (codes "...")) (Either fragment_spread_rest inline_fragment_rest))

-- a name, optionally a colon and another name, and the rest of a field
abbrev pub field_factored : Expr
field_factored = Then name (Then (optional (Then (punctuator (codes ":")) name)) field_rest)

abbrev pub factored_rules : List Expr
factored_rules = with_rule selection_symbol selection_factored (with_rule field_symbol field_factored rules)

unfoldable pub tables : List Row
tables = drop shared_symbols (solve matches samples 9 (shared.rules ++ factored_rules))

abbrev pub factored_rows : List Row
factored_rows = shared.rows ++ with_tables factored_rules tables

-- how parse trees of the factored rules become parse trees of the written ones
abbrev pub changes : List Change
changes =
    replaced selection_symbol (in_second (out_of_symbols fragment_spread_symbol inline_fragment_symbol))
    (replaced field_symbol (out_of_prefix alias_symbol) (replicate (shared_symbols + length rules) unchanged))

-- the grammar that the parser follows
abbrev pub reading : Grammar
reading = with_rows query factored_rows changes
