-- The numbers of the terminals, a token of each, and the groups of terminals that rules name.
use Rattle.std.specs.Prelude.{ℕ, Bool, not, ◌&&◌, ◌||◌, ◌==◌, nat_le, [], ◌∷◌, codes}
use Rattle.graphql_core.specs.{Token, sample}
use Rattle.graphql_core.specs.declared.tokenizer.token.Kind.TheVariants.{Punctuator, Name, IntValue, FloatValue}
use Rattle.graphql_core.specs.declared.tokenizer.token.Kind.TheVariants.{StringValue, BlockString}
use Rattle.graphql_standard.specs.declared.terminal.Terminal.{Terminal}
use Rattle.graphql_standard.specs.declared.terminal.Terminal.TheVariants as terminal
use Rattle.graphql_standard.specs.declared.symbol.Group.{Group}
use Rattle.graphql_standard.specs.declared.symbol.Group.TheVariants as group

-- a token of the terminal
abbrev pub sample_of : Terminal → Token
sample_of terminal.Query = sample Name (codes "query")
sample_of terminal.Mutation = sample Name (codes "mutation")
sample_of terminal.Subscription = sample Name (codes "subscription")
sample_of terminal.Fragment = sample Name (codes "fragment")
sample_of terminal.On = sample Name (codes "on")
sample_of terminal.True = sample Name (codes "true")
sample_of terminal.False = sample Name (codes "false")
sample_of terminal.Null = sample Name (codes "null")
sample_of terminal.Schema = sample Name (codes "schema")
sample_of terminal.Extend = sample Name (codes "extend")
sample_of terminal.Scalar = sample Name (codes "scalar")
sample_of terminal.«Type» = sample Name (codes "type")
sample_of terminal.Interface = sample Name (codes "interface")
sample_of terminal.Union = sample Name (codes "union")
sample_of terminal.Enum = sample Name (codes "enum")
sample_of terminal.Input = sample Name (codes "input")
sample_of terminal.Directive = sample Name (codes "directive")
sample_of terminal.Implements = sample Name (codes "implements")
sample_of terminal.Repeatable = sample Name (codes "repeatable")
sample_of terminal.DirectiveLocation = sample Name (codes "QUERY")
sample_of terminal.OtherName = sample Name (codes "a")
sample_of terminal.IntValue = sample IntValue (codes "0")
sample_of terminal.FloatValue = sample FloatValue (codes "0.0")
sample_of terminal.StringValue = sample StringValue (34 ∷ 34 ∷ [])
sample_of terminal.BlockString = sample BlockString (34 ∷ 34 ∷ 34 ∷ 34 ∷ 34 ∷ 34 ∷ [])
sample_of terminal.Bang = sample Punctuator (codes "!")
sample_of terminal.Dollar = sample Punctuator (codes "$")
sample_of terminal.Ampersand = sample Punctuator (codes "&")
sample_of terminal.OpenParen = sample Punctuator (codes "(")
sample_of terminal.CloseParen = sample Punctuator (codes ")")
sample_of terminal.Spread = sample Punctuator (codes "...")
sample_of terminal.Colon = sample Punctuator (codes ":")
sample_of terminal.Equals = sample Punctuator (codes "=")
sample_of terminal.At = sample Punctuator (codes "@")
sample_of terminal.OpenBracket = sample Punctuator (codes "[")
sample_of terminal.CloseBracket = sample Punctuator (codes "]")
sample_of terminal.OpenBrace = sample Punctuator (codes "{")
sample_of terminal.Pipe = sample Punctuator (codes "|")
sample_of terminal.CloseBrace = sample Punctuator (codes "}")

-- the names come first
abbrev pub number_of : Terminal → ℕ
number_of terminal.Query = 0
number_of terminal.Mutation = 1
number_of terminal.Subscription = 2
number_of terminal.Fragment = 3
number_of terminal.On = 4
number_of terminal.True = 5
number_of terminal.False = 6
number_of terminal.Null = 7
number_of terminal.Schema = 8
number_of terminal.Extend = 9
number_of terminal.Scalar = 10
number_of terminal.«Type» = 11
number_of terminal.Interface = 12
number_of terminal.Union = 13
number_of terminal.Enum = 14
number_of terminal.Input = 15
number_of terminal.Directive = 16
number_of terminal.Implements = 17
number_of terminal.Repeatable = 18
number_of terminal.DirectiveLocation = 19
number_of terminal.OtherName = 20
number_of terminal.IntValue = 21
number_of terminal.FloatValue = 22
number_of terminal.StringValue = 23
number_of terminal.BlockString = 24
number_of terminal.Bang = 25
number_of terminal.Dollar = 26
number_of terminal.Ampersand = 27
number_of terminal.OpenParen = 28
number_of terminal.CloseParen = 29
number_of terminal.Spread = 30
number_of terminal.Colon = 31
number_of terminal.Equals = 32
number_of terminal.At = 33
number_of terminal.OpenBracket = 34
number_of terminal.CloseBracket = 35
number_of terminal.OpenBrace = 36
number_of terminal.Pipe = 37
number_of terminal.CloseBrace = 38

abbrev pub is_name : Terminal → Bool
is_name k = nat_le (number_of k) (number_of terminal.OtherName)

-- the terminal is in the group
abbrev pub has : Group → Terminal → Bool
has (group.Is j) k = number_of j == number_of k
has group.Name k = is_name k
has group.FragmentName k = is_name k && not (number_of k == number_of terminal.On)
has group.EnumValue k =
    is_name k && not (nat_le (number_of terminal.True) (number_of k) && nat_le (number_of k) (number_of terminal.Null))
has group.Number k = number_of k == number_of terminal.IntValue || number_of k == number_of terminal.FloatValue
has group.StringValue k = number_of k == number_of terminal.StringValue || number_of k == number_of terminal.BlockString
