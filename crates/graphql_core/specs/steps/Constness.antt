-- Values and constants, and what the lists and objects of each can contain.
use Rattle.std.specs.Prelude.{ℕ, List, Bool, false, codes}
use Rattle.graphql_core.specs.grammar.{Expr, Then, Many, Sym, ParseTree, First, Second, Node}
use Rattle.graphql_core.specs.sources.{Items}
use Rattle.graphql_core.specs.steps.Matching.{sees_class}
use Rattle.graphql_core.specs.declared.common.read.values.Constness.{Constness}
use Rattle.graphql_core.specs.declared.common.read.values.Constness.TheVariants.{Value, Constant}
use Rattle.graphql_core.specs.values.{punctuator, name, punctuator_class, value_symbol, const_symbol, argument_symbol}
use Rattle.graphql_core.specs.values.{const_pair_symbol, ValueTree, ValueItems, value_of, values_of, argument_of}
use Rattle.graphql_core.specs.values.{pairs_of, const_of, consts_of, const_pair_of, const_pairs_of}

-- ---- the productions of a sort

abbrev pub symbol_of : Constness → ℕ
symbol_of Value = value_symbol
symbol_of Constant = const_symbol

abbrev pub pair_symbol_of : Constness → ℕ
pair_symbol_of Value = argument_symbol
pair_symbol_of Constant = const_pair_symbol

abbrev pub variable_rule : Expr
variable_rule = Then (punctuator (codes "$")) name

abbrev pub list_rule : Constness → Expr
list_rule s = Then (punctuator (codes "[")) (Then (Many (Sym (symbol_of s))) (punctuator (codes "]")))

abbrev pub object_rule : Constness → Expr
object_rule s = Then (punctuator (codes "{")) (Then (Many (Sym (pair_symbol_of s))) (punctuator (codes "}")))

abbrev pub pair_rule : Constness → Expr
pair_rule s = Then name (Then (punctuator (codes ":")) (Sym (symbol_of s)))

-- a variable is next, and is allowed
abbrev pub begins_variable : Constness → Items → Bool
begins_variable Value i = sees_class (punctuator_class (codes "$")) i
begins_variable Constant i = false

-- ---- what their parse trees denote

abbrev pub tree_of : Constness → ParseTree → ValueTree
tree_of Value = value_of
tree_of Constant = const_of

abbrev pub trees_of : Constness → ParseTree → ValueItems
trees_of Value = values_of
trees_of Constant = consts_of

abbrev pub pair_of : Constness → ParseTree → List ℕ × ValueTree
pair_of Value = argument_of
pair_of Constant = const_pair_of

abbrev pub pairs_by : Constness → ParseTree → List (List ℕ × ValueTree)
pairs_by Value = pairs_of
pairs_by Constant = const_pairs_of

-- ---- the parse trees of values that are a variable, plain, a list or an object

abbrev pub as_variable : ParseTree → ParseTree
as_variable x = Node value_symbol (First x)

abbrev pub as_plain : Constness → ParseTree → ParseTree
as_plain Value x = Node value_symbol (Second (First x))
as_plain Constant x = Node const_symbol (First x)

abbrev pub as_list : Constness → ParseTree → ParseTree
as_list Value x = Node value_symbol (Second (Second (First x)))
as_list Constant x = Node const_symbol (Second (First x))

abbrev pub as_object : Constness → ParseTree → ParseTree
as_object Value x = Node value_symbol (Second (Second (Second x)))
as_object Constant x = Node const_symbol (Second (Second x))
