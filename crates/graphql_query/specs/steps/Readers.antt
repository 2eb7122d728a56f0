-- What readers of queries return.
use Rattle.std.specs.Prelude.{◌≡◌, ℕ, Bool, ◌||◌, List, [], Option, Some, None, Result, codes}
use Rattle.graphql_core.specs.{nowhere, Expr, Then, Sym, ParseTree, Both, First, Second, optional, TakesSome, written}
use Rattle.graphql_core.specs.{place_of, sees_class, Gives, Adds, keyword, punctuator, spelling_at, Items}
use Rattle.graphql_core.specs.{punctuator_class, name}
use Rattle.graphql_core.specs.declared.helpers.read_error.ReadError.{ReadError}
use Rattle.graphql_core.specs.declared.position.Pos.{Pos}
use Rattle.graphql_query.specs.Tree.{spread, VariableDefinitionTree, SelectionTree, SelectionSetTree, DefinitionTree}
use Rattle.graphql_query.specs.Tree.{trees_of, selection_view, set}
use Rattle.graphql_query.specs.Grammar.{definition_symbol}
use Rattle.graphql_query.specs.steps.FactoredRules.{reading, changes}
use Rattle.graphql_query.specs.Meanings.{fragment_spread_rest_of, inline_fragment_rest_of, variable_definition_of}
use Rattle.graphql_query.specs.Meanings.{definition_of}
use Rattle.graphql_query.specs.declared.tree.Selection.{Selection}

-- the reader follows the factored rules, and its result is what the written parse tree denotes
abbrev pub Reads : {A : Type 0} → Expr → Items → Items → (A → ParseTree → Type 0) → Result A ReadError → Type 0
Reads e old new P r = Gives reading e old new (λ v x. P v (written changes x)) r

-- the variable that the written parse tree denotes
abbrev pub read_variable_definition : ParseTree → VariableDefinitionTree
read_variable_definition x = variable_definition_of (written changes x)

-- selections were appended, and with this span they are the selection set
abbrev pub AddsSet : {N T : Type 0} → (T → List ℕ) → List (Selection N T) → List (Selection N T) → Pos × Pos
    → SelectionSetTree → Type 0
AddsSet bytes old new span tree =
    (ss : List SelectionTree) × Adds (selection_view bytes) old new ss
    × (set (place_of span.0) (place_of span.1) (trees_of ss) ≡ tree)

-- a name, and optionally a colon and another name
abbrev pub first_names : Expr
first_names = Then name (optional (Then (punctuator (codes ":")) name))

-- the alias, if there is one, and the name
abbrev pub alias_and_name_of : ParseTree → Option (List ℕ) × List ℕ
alias_and_name_of (Both n (First (Both c m))) = (Some (spelling_at n), spelling_at m)
alias_and_name_of (Both n _) = (None, spelling_at n)
alias_and_name_of _ = (None, [])

-- the selection that begins with `...`
abbrev pub after_dots_of : ParseTree → SelectionTree
after_dots_of (Both dots (First rest)) = fragment_spread_rest_of rest
after_dots_of (Both dots (Second rest)) = inline_fragment_rest_of rest
after_dots_of _ = spread nowhere [] []

-- the next token can begin a definition
abbrev pub sees_definition : Items → Bool
sees_definition i =
    sees_class (punctuator_class (codes "{")) i || sees_class (keyword (codes "query")) i
    || sees_class (keyword (codes "mutation")) i
    || sees_class (keyword (codes "subscription")) i || sees_class (keyword (codes "fragment")) i

-- a definition that denotes d was read by the factored rules
abbrev pub TakesDefinition : Items → Items → DefinitionTree → Type 0
TakesDefinition old new d =
    TakesSome reading (Sym definition_symbol) old new (λ x. d ≡ definition_of (written changes x))
