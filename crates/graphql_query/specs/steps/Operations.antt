-- Operations with a keyword: the keyword, and the model of the body.
use Rattle.std.specs.Prelude.{◌≡◌, ℕ, List, Option, Some, None, true, false}
use Rattle.graphql_core.specs.{Class, Expr, One, Then, Sym, sees_class, keyword, Items, place_of}
use Rattle.graphql_query.specs.Grammar.{operation_body_symbol}
use Rattle.graphql_query.specs.Tree.{OperationKind, query_kind, mutation_kind, subscription_kind, OperationTree}
use Rattle.graphql_query.specs.Tree.{OperationBodyTree, with_body, body_view}
use Rattle.graphql_query.specs.declared.print.operation.OperationParts.{OperationParts}
use Rattle.graphql_query.specs.declared.read.keyword.Keyword.{Keyword}
use Rattle.graphql_query.specs.declared.read.keyword.Keyword.TheVariants.{Query, Mutation, Subscription}
use Rattle.graphql_query.specs.declared.read.operation.OperationBody.{OperationBody}
use Rattle.graphql_query.specs.Layout as layout

abbrev pub kind_of : Keyword → OperationKind
kind_of Query = query_kind
kind_of Mutation = mutation_kind
kind_of Subscription = subscription_kind

abbrev pub word_of : OperationKind → Class
word_of kind = keyword (layout.keyword kind)

-- the keyword and the body
abbrev pub keyword_rule : OperationKind → Expr
keyword_rule kind = Then (One (word_of kind)) (Sym operation_body_symbol)

-- this keyword is next, or none of the three is
abbrev pub HasNextKeyword : Items → Option Keyword → Type 0
HasNextKeyword i (Some k) = sees_class (word_of (kind_of k)) i ≡ true
HasNextKeyword i None =
    (sees_class (word_of query_kind) i ≡ false) × (sees_class (word_of mutation_kind) i ≡ false)
    × (sees_class (word_of subscription_kind) i ≡ false)

abbrev pub operation_body_view : {N T : Type 0} → (T → List ℕ) → OperationBody N T → OperationBodyTree
operation_body_view bytes c = body_view bytes c.name c.variable_definitions.items c.directives.items c.selection_set

-- the model of references to the parts of an operation
abbrev pub operation_seen : {N T : Type 0} → (T → List ℕ) → OperationParts N T → OperationTree
operation_seen bytes o = with_body (kind_of o.keyword) (place_of o.position)
    (body_view bytes o.name.now o.variables.now.items o.directives.now.items o.selected.now)
