-- The productions that queries and schemas share, as they are written.
use Rattle.std.specs.Prelude.{ℕ, ◌+◌, ◌-◌, true, List, [], ◌∷◌, codes}
use Rattle.graphql_core.specs.grammar.{Except, Token, Class, Spelled, AnyOf, nowhere, matches, optional, Expr, One}
use Rattle.graphql_core.specs.grammar.{Then, Either, Many, Sym, Row, Grammar, some_of, replaced, with_tables}
use Rattle.graphql_core.specs.theory.{solve}
use Rattle.graphql_core.specs.sources.{kind_number}
use Rattle.graphql_core.specs.declared.tokenizer.token.Kind.{Kind}
use Rattle.graphql_core.specs.declared.tokenizer.token.Kind.TheVariants.{Punctuator, Name, IntValue, FloatValue}
use Rattle.graphql_core.specs.declared.tokenizer.token.Kind.TheVariants.{StringValue, BlockString}
use Rattle.graphql_core.specs.values.Leaves.{is_good}

-- ---- the symbols, by their index in the list of rules

abbrev pub value_symbol : ℕ
value_symbol = 0

abbrev pub const_symbol : ℕ
const_symbol = value_symbol + 1

abbrev pub const_pair_symbol : ℕ
const_pair_symbol = const_symbol + 1

abbrev pub plain_symbol : ℕ
plain_symbol = const_pair_symbol + 1

abbrev pub enum_name_symbol : ℕ
enum_name_symbol = plain_symbol + 1

abbrev pub type_symbol : ℕ
type_symbol = enum_name_symbol + 1

abbrev pub arguments_symbol : ℕ
arguments_symbol = type_symbol + 1

abbrev pub argument_symbol : ℕ
argument_symbol = arguments_symbol + 1

abbrev pub directives_symbol : ℕ
directives_symbol = argument_symbol + 1

abbrev pub directive_symbol : ℕ
directive_symbol = directives_symbol + 1

abbrev pub default_symbol : ℕ
default_symbol = directive_symbol + 1

-- the number of symbols
abbrev pub shared_symbols : ℕ
shared_symbols = default_symbol + 1

-- the rules of a language, with another one for a symbol that is not shared
abbrev pub with_rule : ℕ → Expr → List Expr → List Expr
with_rule k rule rules = replaced (k - shared_symbols) rule rules

-- ---- single tokens

abbrev pub punctuator_class : List ℕ → Class
punctuator_class s = Spelled (kind_number Punctuator) s

abbrev pub keyword : List ℕ → Class
keyword s = Spelled (kind_number Name) s

abbrev pub any : Kind → Class
any k = AnyOf (kind_number k)

-- a name other than `true`, `false` and `null`
abbrev pub enum_class : Class
enum_class = Except (kind_number Name) (codes "true" ∷ codes "false" ∷ codes "null" ∷ [])

-- any name, as a directive location: the schema language tests that the location is known
abbrev pub location_class : Class
location_class = Except (kind_number Name) []

abbrev pub punctuator : List ℕ → Expr
punctuator s = One (punctuator_class s)

abbrev pub word : List ℕ → Expr
word s = One (keyword s)

abbrev pub name : Expr
name = One (any Name)

-- ---- the productions

-- Value = "$" Name | Plain | "[" Value* "]" | "{" Argument* "}"
abbrev pub value_rule : Expr
value_rule =
    Either (Then (punctuator (codes "$")) name)
    (Either (Sym plain_symbol)
    (Either (Then (punctuator (codes "[")) (Then (Many (Sym value_symbol)) (punctuator (codes "]"))))
    (Then (punctuator (codes "{")) (Then (Many (Sym argument_symbol)) (punctuator (codes "}"))))))

-- Const = Plain | "[" Const* "]" | "{" ConstPair* "}"
abbrev pub const_rule : Expr
const_rule =
    Either (Sym plain_symbol)
    (Either (Then (punctuator (codes "[")) (Then (Many (Sym const_symbol)) (punctuator (codes "]"))))
    (Then (punctuator (codes "{")) (Then (Many (Sym const_pair_symbol)) (punctuator (codes "}")))))

-- ConstPair = Name ":" Const
abbrev pub const_pair_rule : Expr
const_pair_rule = Then name (Then (punctuator (codes ":")) (Sym const_symbol))

-- Plain = "true" | "false" | "null" | EnumName | Int | Float | String | Block
abbrev pub plain_rule : Expr
plain_rule =
    Either (word (codes "true"))
    (Either (word (codes "false")) (Either (word (codes "null")) (Either (Sym enum_name_symbol) (Either
    (One (any IntValue)) (Either (One (any FloatValue)) (Either (One (any StringValue)) (One (any BlockString))))))))

-- EnumName = Name other than "true", "false", "null"
abbrev pub enum_name_rule : Expr
enum_name_rule = One enum_class

-- Type = Name "!"? | "[" Type "]" "!"?
abbrev pub type_rule : Expr
type_rule =
    Either (Then name (optional (punctuator (codes "!"))))
    (Then (punctuator (codes "["))
    (Then (Sym type_symbol) (Then (punctuator (codes "]")) (optional (punctuator (codes "!"))))))

-- Arguments = "(" Argument+ ")"
abbrev pub arguments_rule : Expr
arguments_rule = Then (punctuator (codes "(")) (Then (some_of (Sym argument_symbol)) (punctuator (codes ")")))

-- Argument = Name ":" Value
abbrev pub argument_rule : Expr
argument_rule = Then name (Then (punctuator (codes ":")) (Sym value_symbol))

-- Directives = Directive*
abbrev pub directives_rule : Expr
directives_rule = Many (Sym directive_symbol)

-- Directive = "@" Name Arguments?
abbrev pub directive_rule : Expr
directive_rule = Then (punctuator (codes "@")) (Then name (optional (Sym arguments_symbol)))

-- Default = "=" Const
abbrev pub default_rule : Expr
default_rule = Then (punctuator (codes "=")) (Sym const_symbol)

abbrev pub rules : List Expr
rules =
    value_rule ∷ const_rule ∷ const_pair_rule ∷ plain_rule ∷ enum_name_rule ∷ type_rule ∷ arguments_rule ∷ argument_rule
    ∷ directives_rule ∷ directive_rule ∷ default_rule ∷ []

-- ---- the grammar

abbrev pub sample : Kind → List ℕ → Token
sample k s = record { kind = kind_number k; spelling = s; place = nowhere }

abbrev pub samples : List Token
samples =
    sample Name (codes "a") ∷ sample Name (codes "true") ∷ sample Name (codes "false") ∷ sample Name (codes "null")
    ∷ sample IntValue (codes "0") ∷ sample FloatValue (codes "0.0") ∷ sample StringValue (34 ∷ 34 ∷ [])
    ∷ sample BlockString (34 ∷ 34 ∷ 34 ∷ 34 ∷ 34 ∷ 34 ∷ [])
    ∷ sample Punctuator (codes "$") ∷ sample Punctuator (codes "[") ∷ sample Punctuator (codes "]")
    ∷ sample Punctuator (codes "{") ∷ sample Punctuator (codes "}") ∷ sample Punctuator (codes ":")
    ∷ sample Punctuator (codes "!") ∷ sample Punctuator (codes "(") ∷ sample Punctuator (codes ")")
    ∷ sample Punctuator (codes "@") ∷ sample Punctuator (codes "=") ∷ []

unfoldable pub tables : List Row
tables = solve matches samples 9 rules

abbrev pub rows : List Row
rows = with_tables rules tables

-- a leaf must have a value, and no node is rejected
abbrev pub shared : Grammar
shared = record { rows = rows; good = is_good; check = λ k x. true; samples = samples }
