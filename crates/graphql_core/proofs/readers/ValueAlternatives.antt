-- Which alternative of each choice is read, and which turn of each repetition.
use Rattle.std.proofs.Common.{◌≡◌, ℕ, true, false, List, [], ◌∷◌, ◌++◌, Option, refl, ap, codes}
use Rattle.graphql_core.proofs.grammar.{sees-apart}
use Rattle.graphql_core.specs.{item, object, ValueTree, ValueMembers, put, list, no_members, Token, Class, Expr, Then, Either, Many, Sym, ParseTree, Both}
use Rattle.graphql_core.specs.{First, Second, Node, optional, peek, first, is_ll1, nullable, sees, Takes, Items, shared, rows, tables, name, any, punctuator}
use Rattle.graphql_core.specs.{punctuator_class, value_symbol, const_symbol, plain_symbol, argument_symbol, const_pair_symbol, type_symbol, arguments_symbol}
use Rattle.graphql_core.specs.{default_symbol, spelling_at, plain_of, put_all, value_of, values_of, argument_of, pairs_of, const_of, consts_of, const_pair_of}
use Rattle.graphql_core.specs.{const_pairs_of, arguments_of, symbol_of, pair_symbol_of, variable_rule, list_rule, object_rule, pair_rule, begins_variable}
use Rattle.graphql_core.specs.{tree_of, trees_of, pair_of, pairs_by, as_variable, as_plain, as_list, as_object, IsList, listed_values, each_of}
use Rattle.graphql_core.specs.declared.tokenizer.token.Kind.TheVariants.{Name}
use Rattle.graphql_core.specs.declared.common.read.values.Constness.{Constness}
use Rattle.graphql_core.specs.declared.common.read.values.Constness.TheVariants.{Value, Constant}
use Rattle.graphql_core.proofs.readers.Reading.{FailsUnseen, unseen_one, unseen_then, unseen_either, many_means, each_means}
use Rattle.graphql_core.proofs.readers.Alternatives.{IsSide, through, side_node, side_left, side_right, unseen_symbol, sees_neither, side_in, side_nth}
use Rattle.graphql_core.proofs.readers.Lists.{is_list}
use Rattle.graphql_core.proofs.readers.Optional.{BegunBy}

-- the shared grammar can be read with one token of lookahead
pub shared_ll1 : is_ll1 shared.rows ≡ true
unfolding tables
shared_ll1 = refl

-- ---- values and constants

-- the next item begins a plain value, a list or an object, of constants
abbrev const_after_plain : Expr
const_after_plain = Either (list_rule Constant) (object_rule Constant)

abbrev after_plain : Expr
after_plain = Either (list_rule Value) (object_rule Value)

abbrev after_variable : Expr
after_variable = Either (Sym plain_symbol) after_plain

abbrev bracket : Class
bracket = punctuator_class (codes "[")

abbrev brace : Class
brace = punctuator_class (codes "{")

pub variable_side : (s : Constness) (i : Items) → begins_variable s i ≡ true → IsSide shared (Sym (symbol_of s)) variable_rule as_variable i.tokens
    × ((x : ParseTree) → tree_of s (as_variable x) ≡ value_of (as_variable x))
variable_side Value i seen = (side_in value_symbol (λ x. refl) (side_nth (punctuator_class (codes "$")) _ 0 refl seen), λ x. refl)
variable_side Constant i seen = absurd cc

pub list_side : (s : Constness) (ts : List Token) → sees (bracket ∷ []) (peek ts) ≡ true → IsSide shared (Sym (symbol_of s)) (list_rule s) (as_list s) ts
unfolding tables
list_side Value ts seen = side_in value_symbol (λ x. refl) (side_nth bracket _ 2 refl seen)
list_side Constant ts seen = side_in const_symbol (λ x. refl) (side_nth bracket _ 1 refl seen)

pub object_side : (s : Constness) (ts : List Token) → sees (brace ∷ []) (peek ts) ≡ true → IsSide shared (Sym (symbol_of s)) (object_rule s) (as_object s) ts
unfolding tables
object_side Value ts seen = side_in value_symbol (λ x. refl) (side_nth brace _ 3 refl seen)
object_side Constant ts seen = side_in const_symbol (λ x. refl) (side_nth brace _ 2 refl seen)

unseen_plain : (ts : List Token) → FailsUnseen shared (Sym plain_symbol) ts
unfolding tables
unseen_plain ts = unseen_symbol shared plain_symbol ts refl (unseen_either shared _ _ ts refl refl)

pub plain_side : (s : Constness) (i : Items) → begins_variable s i ≡ false → sees (bracket ∷ []) (peek i.tokens) ≡ false
    → sees (brace ∷ []) (peek i.tokens) ≡ false
    → IsSide shared (Sym (symbol_of s)) (Sym plain_symbol) (as_plain s) i.tokens
unfolding tables
plain_side Value i h k l =
    let neither = sees_neither (bracket ∷ []) (brace ∷ []) (peek i.tokens) k l in
    side_in value_symbol (λ x. refl)
    (through shared _ _ _ _ _ i.tokens (side_right shared variable_rule after_variable i.tokens refl refl (unseen_either shared _ _ i.tokens refl refl) h)
    (side_left shared (Sym plain_symbol) after_plain i.tokens refl refl (unseen_plain i.tokens) neither))
plain_side Constant i h k l =
    side_in const_symbol (λ x. refl)
    (side_left shared (Sym plain_symbol) const_after_plain i.tokens refl refl (unseen_plain i.tokens)
    (sees_neither (bracket ∷ []) (brace ∷ []) (peek i.tokens) k l))

-- a value and a member take a token
pub some_value : (s : Constness) → nullable rows (Sym (symbol_of s)) ≡ false
unfolding tables
some_value Value = refl
some_value Constant = refl

pub some_pair : (s : Constness) → nullable rows (Sym (pair_symbol_of s)) ≡ false
unfolding tables
some_pair Value = refl
some_pair Constant = refl

-- what a plain value, a list and an object denote
pub plain_means : (s : Constness) (x : ParseTree) → tree_of s (as_plain s x) ≡ plain_of x
plain_means Value x = refl
plain_means Constant x = refl

pub list_means : (s : Constness) (o vs e : ParseTree) → tree_of s (as_list s (Both o (Both vs e))) ≡ list (trees_of s vs)
list_means Value o vs e = refl
list_means Constant o vs e = refl

pub object_means : (s : Constness) (o ps e : ParseTree) → tree_of s (as_object s (Both o (Both ps e))) ≡ object (put_all (pairs_by s ps) no_members)
object_means Value o ps e = refl
object_means Constant o ps e = refl

pub pair_means : (s : Constness) (k : ℕ) (n c v : ParseTree) → pair_of s (Node k (Both n (Both c v))) ≡ (spelling_at n, tree_of s v)
pair_means Value k n c v = refl
pair_means Constant k n c v = refl

-- the turns of their repetitions
pub unseen_value : (s : Constness) (ts : List Token) → FailsUnseen shared (Sym (symbol_of s)) ts
unfolding tables
unseen_value Value ts = unseen_symbol shared value_symbol ts refl (unseen_either shared _ _ ts refl refl)
unseen_value Constant ts = unseen_symbol shared const_symbol ts refl (unseen_either shared _ _ ts refl refl)

pub ends_list : (s : Constness) (item : Option Token)
    → sees (punctuator_class (codes "]") ∷ []) item ≡ true → sees (first rows (Sym (symbol_of s))) item ≡ false
unfolding tables
ends_list Value next h = sees-apart (first rows (Sym value_symbol)) (punctuator_class (codes "]") ∷ []) next refl h
ends_list Constant next h = sees-apart (first rows (Sym const_symbol)) (punctuator_class (codes "]") ∷ []) next refl h

pub begins_pair : (s : Constness) (item : Option Token) → sees (first rows (Sym (pair_symbol_of s))) item ≡ sees (any Name ∷ []) item
unfolding tables
begins_pair Value next = refl
begins_pair Constant next = refl

pub pair_side : (s : Constness) (ts : List Token) → IsSide shared (Sym (pair_symbol_of s)) (pair_rule s) (Node (pair_symbol_of s)) ts
pair_side Value ts = side_node shared argument_symbol ts (λ x. refl)
pair_side Constant ts = side_node shared const_pair_symbol ts (λ x. refl)

pub put_more : (ps : List (List ℕ × ValueTree)) (p : List ℕ × ValueTree) (ms : ValueMembers) → put_all (ps ++ p ∷ []) ms ≡ put p.0 p.1 (put_all ps ms)
put_more [] p ms = refl
put_more (q ∷ ps) p ms = put_more ps p (put q.0 q.1 ms)

pub trees_means : (s : Constness) {ts : List Token} {x : ParseTree} {us : List Token} → Takes shared (Many (Sym (symbol_of s))) ts x us
    → trees_of s x ≡ listed_values (each_of (tree_of s) x)
trees_means Value h = many_means shared _ value_of values_of listed_values refl (λ x y vs e. ap (item (value_of x)) e) h
trees_means Constant h = many_means shared _ const_of consts_of listed_values refl (λ x y vs e. ap (item (const_of x)) e) h

pub pairs_means : (s : Constness) {ts : List Token} {x : ParseTree} {us : List Token} → Takes shared (Many (Sym (pair_symbol_of s))) ts x us
    → pairs_by s x ≡ each_of (pair_of s) x
pairs_means Value h = each_means argument_of pairs_of refl (λ x y. refl) h
pairs_means Constant h = each_means const_pair_of const_pairs_of refl (λ x y. refl) h

-- ---- arguments and directives

pub arguments_list : IsList shared (punctuator_class (codes "(")) (punctuator_class (codes ")")) (Sym argument_symbol) argument_of arguments_symbol arguments_of
unfolding tables
arguments_list = is_list pairs_of refl (λ x. refl) (λ t. refl) (λ t. refl) refl refl refl (λ x y. refl) (λ t u x xs. refl)

pub default_begins : BegunBy shared default_symbol (punctuator_class (codes "=") ∷ [])
unfolding tables
default_begins = record { something = refl; first = refl }

-- ---- types

abbrev pub named_rule : Expr
named_rule = Then name (optional (punctuator (codes "!")))

abbrev pub list_type_rule : Expr
list_type_rule = Then (punctuator (codes "[")) (Then (Sym type_symbol) (Then (punctuator (codes "]")) (optional (punctuator (codes "!")))))

pub named_side : (ts : List Token) → sees (bracket ∷ []) (peek ts) ≡ false → IsSide shared (Sym type_symbol) named_rule (λ x. Node type_symbol (First x)) ts
named_side ts unseen =
    side_in type_symbol (λ x. refl) (side_left shared named_rule list_type_rule ts refl refl (unseen_then shared _ _ ts refl (unseen_one shared _ ts)) unseen)

pub list_type_side : (ts : List Token) → sees (bracket ∷ []) (peek ts) ≡ true
    → IsSide shared (Sym type_symbol) list_type_rule (λ x. Node type_symbol (Second x)) ts
unfolding tables
list_type_side ts seen = side_in type_symbol (λ x. refl) (side_nth bracket _ 1 refl seen)
