-- The next token decides which operation or definition is read.
use Rattle.std.proofs.Common.{◌≡◌, true, false, ◌||◌, List, [], ◌∷◌, None, codes, refl, ap, ◌∙◌}
use Rattle.graphql_core.specs.{Token, Class, Expr, Either, Sym, ParseTree, First, Second, Node, peek, first, written}
use Rattle.graphql_core.specs.{sees, keyword, tables as shared_tables, Items, punctuator_class}
use Rattle.graphql_core.proofs.{FailsUnseen, unseen_one, unseen_then, unseen_either, IsSide, side_left, unseen_symbol}
use Rattle.graphql_core.proofs.{side_in, side_nth, sees_both, sees_neither}
use Rattle.graphql_query.specs.{DefinitionTree, operation, OperationKind, query_kind, mutation_kind, subscription_kind, reading, changes, factored_rows, tables}
use Rattle.graphql_query.specs.{definition_symbol, operation_symbol, selection_set_symbol, fragment_definition_symbol, keyword_operation_of, operation_of}
use Rattle.graphql_query.specs.{word_of, keyword_rule, HasNextKeyword, sees_definition, definition_of}

abbrev brace : Class
brace = punctuator_class (codes "{")

abbrev fragment_word : Class
fragment_word = keyword (codes "fragment")

-- ---- operations

abbrev keyword_rules : Expr
keyword_rules = Either (keyword_rule query_kind) (Either (keyword_rule mutation_kind) (keyword_rule subscription_kind))

abbrev pub as_kind : OperationKind → ParseTree → ParseTree
as_kind query_kind x = Node operation_symbol (Second (First x))
as_kind mutation_kind x = Node operation_symbol (Second (Second (First x)))
as_kind subscription_kind x = Node operation_symbol (Second (Second (Second x)))

abbrev pub as_short : ParseTree → ParseTree
as_short x = Node operation_symbol (First x)

pub kind_side : (kind : OperationKind) (ts : List Token) → sees (word_of kind ∷ []) (peek ts) ≡ true
    → IsSide reading (Sym operation_symbol) (keyword_rule kind) (as_kind kind) ts
unfolding tables shared_tables
kind_side query_kind ts seen = side_in operation_symbol (λ x. refl) (side_nth (word_of query_kind) _ 1 refl seen)
kind_side mutation_kind ts seen = side_in operation_symbol (λ x. refl) (side_nth (word_of mutation_kind) _ 2 refl seen)
kind_side subscription_kind ts seen = side_in operation_symbol (λ x. refl) (side_nth (word_of subscription_kind) _ 3 refl seen)

pub kind_means : (kind : OperationKind) (x : ParseTree)
    → operation (keyword_operation_of kind (written changes x)) ≡ operation_of (written changes (as_kind kind x))
kind_means query_kind x = refl
kind_means mutation_kind x = refl
kind_means subscription_kind x = refl

unseen_selection_set : (ts : List Token) → FailsUnseen reading (Sym selection_set_symbol) ts
unfolding tables shared_tables
unseen_selection_set ts = unseen_symbol reading selection_set_symbol ts refl (unseen_then reading _ _ ts refl (unseen_one reading _ ts))

pub short_side : (i : Items) → HasNextKeyword i None → IsSide reading (Sym operation_symbol) (Sym selection_set_symbol) as_short i.tokens
unfolding tables shared_tables
short_side i (q, m, s) =
    let ts = i.tokens in
    let others = sees_neither (word_of mutation_kind ∷ []) (word_of subscription_kind ∷ []) (peek ts) m s in
    side_in operation_symbol (λ x. refl)
    (side_left reading (Sym selection_set_symbol) keyword_rules ts refl refl (unseen_selection_set ts)
    (sees_neither (word_of query_kind ∷ []) (word_of mutation_kind ∷ word_of subscription_kind ∷ []) (peek ts) q others))

-- ---- definitions

abbrev pub as_operation : ParseTree → ParseTree
as_operation x = Node definition_symbol (First x)

abbrev pub as_fragment : ParseTree → ParseTree
as_fragment x = Node definition_symbol (Second x)

unseen_operation : (ts : List Token) → FailsUnseen reading (Sym operation_symbol) ts
unfolding tables shared_tables
unseen_operation ts = unseen_symbol reading operation_symbol ts refl (unseen_either reading _ _ ts refl refl)

pub operation_side : (ts : List Token) → sees (fragment_word ∷ []) (peek ts) ≡ false
    → IsSide reading (Sym definition_symbol) (Sym operation_symbol) as_operation ts
unfolding tables shared_tables
operation_side ts unseen =
    side_in definition_symbol (λ x. refl) (side_left reading (Sym operation_symbol) (Sym fragment_definition_symbol) ts refl refl (unseen_operation ts) unseen)

pub fragment_definition_side : (ts : List Token) → sees (fragment_word ∷ []) (peek ts) ≡ true
    → IsSide reading (Sym definition_symbol) (Sym fragment_definition_symbol) as_fragment ts
unfolding tables shared_tables
fragment_definition_side ts seen = side_in definition_symbol (λ x. refl) (side_nth fragment_word _ 1 refl seen)

-- ---- lists of definitions

abbrev pub read_definition : ParseTree → DefinitionTree
read_definition x = definition_of (written changes x)

pub begins_definition : (i : Items) → sees (first factored_rows (Sym definition_symbol)) (peek i.tokens) ≡ sees_definition i
unfolding tables shared_tables
begins_definition i =
    let item = peek i.tokens in
    sees_both (brace ∷ word_of query_kind ∷ word_of mutation_kind ∷ word_of subscription_kind ∷ []) (fragment_word ∷ []) item
    ∙ ap (λ b. b || sees (fragment_word ∷ []) item) (sees_both (brace ∷ word_of query_kind ∷ word_of mutation_kind ∷ []) (word_of subscription_kind ∷ []) item
    ∙ ap (λ b. b || sees (word_of subscription_kind ∷ []) item) (sees_both (brace ∷ word_of query_kind ∷ []) (word_of mutation_kind ∷ []) item
    ∙ ap (λ b. b || sees (word_of mutation_kind ∷ []) item) (sees_both (brace ∷ []) (word_of query_kind ∷ []) item)))
