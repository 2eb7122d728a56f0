-- The terminals: each has the tokens of some classes. The grammar does not distinguish these tokens.
use Rattle.std.specs.Prelude.{◌≡◌, ℕ, true, List, [], ◌∷◌, ◌++◌, map, codes}
use Rattle.graphql_core.specs.{Place, Token, Class, Except, is_listed, kind_number, any, keyword, punctuator_class}
use Rattle.graphql_core.specs.{in_any}
use Rattle.graphql_core.specs.declared.tokenizer.token.Kind.{Kind}
use Rattle.graphql_core.specs.declared.tokenizer.token.Kind.TheVariants.{Punctuator, Name, IntValue, FloatValue}
use Rattle.graphql_core.specs.declared.tokenizer.token.Kind.TheVariants.{StringValue, BlockString}
use Rattle.graphql_standard.specs.Grammar.{locations}
use Rattle.graphql_standard.specs.declared.terminal.Terminal.{Terminal}
use Rattle.graphql_standard.specs.declared.terminal.Terminal.TheVariants as terminal

-- a token of this kind with this spelling
abbrev pub token : Kind → List ℕ → Place → Token
token k s p = record { kind = kind_number k; spelling = s; place = p }

abbrev pub punctuators : List (List ℕ)
punctuators =
    codes "!" ∷ codes "$" ∷ codes "&" ∷ codes "(" ∷ codes ")" ∷ codes "..." ∷ codes ":" ∷ codes "=" ∷ codes "@" ∷
    codes "[" ∷ codes "]" ∷ codes "{" ∷ codes "|" ∷ codes "}" ∷ []

-- the spelling is one of the kind, as far as it concerns the grammar
abbrev pub IsSpellingOf : Kind → List ℕ → Type 0
IsSpellingOf Punctuator s = is_listed s punctuators ≡ true
IsSpellingOf k s = Unit {0}

-- the names that are keywords somewhere in the grammar
abbrev pub keywords : List (List ℕ)
keywords =
    codes "query" ∷ codes "mutation" ∷ codes "subscription" ∷ codes "fragment" ∷ codes "on" ∷ codes "true" ∷
    codes "false" ∷ codes "null" ∷ codes "schema" ∷ codes "extend" ∷ codes "scalar" ∷ codes "type" ∷
    codes "interface" ∷ codes "union" ∷ codes "enum" ∷ codes "input" ∷ codes "directive" ∷ codes "implements" ∷
    codes "repeatable" ∷ []

-- the tokens of a terminal, by their classes
abbrev pub classes_of : Terminal → List Class
classes_of terminal.Query = keyword (codes "query") ∷ []
classes_of terminal.Mutation = keyword (codes "mutation") ∷ []
classes_of terminal.Subscription = keyword (codes "subscription") ∷ []
classes_of terminal.Fragment = keyword (codes "fragment") ∷ []
classes_of terminal.On = keyword (codes "on") ∷ []
classes_of terminal.True = keyword (codes "true") ∷ []
classes_of terminal.False = keyword (codes "false") ∷ []
classes_of terminal.Null = keyword (codes "null") ∷ []
classes_of terminal.Schema = keyword (codes "schema") ∷ []
classes_of terminal.Extend = keyword (codes "extend") ∷ []
classes_of terminal.Scalar = keyword (codes "scalar") ∷ []
classes_of terminal.«Type» = keyword (codes "type") ∷ []
classes_of terminal.Interface = keyword (codes "interface") ∷ []
classes_of terminal.Union = keyword (codes "union") ∷ []
classes_of terminal.Enum = keyword (codes "enum") ∷ []
classes_of terminal.Input = keyword (codes "input") ∷ []
classes_of terminal.Directive = keyword (codes "directive") ∷ []
classes_of terminal.Implements = keyword (codes "implements") ∷ []
classes_of terminal.Repeatable = keyword (codes "repeatable") ∷ []
classes_of terminal.DirectiveLocation = map keyword locations
classes_of terminal.OtherName = Except (kind_number Name) (keywords ++ locations) ∷ []
classes_of terminal.IntValue = any IntValue ∷ []
classes_of terminal.FloatValue = any FloatValue ∷ []
classes_of terminal.StringValue = any StringValue ∷ []
classes_of terminal.BlockString = any BlockString ∷ []
classes_of terminal.Bang = punctuator_class (codes "!") ∷ []
classes_of terminal.Dollar = punctuator_class (codes "$") ∷ []
classes_of terminal.Ampersand = punctuator_class (codes "&") ∷ []
classes_of terminal.OpenParen = punctuator_class (codes "(") ∷ []
classes_of terminal.CloseParen = punctuator_class (codes ")") ∷ []
classes_of terminal.Spread = punctuator_class (codes "...") ∷ []
classes_of terminal.Colon = punctuator_class (codes ":") ∷ []
classes_of terminal.Equals = punctuator_class (codes "=") ∷ []
classes_of terminal.At = punctuator_class (codes "@") ∷ []
classes_of terminal.OpenBracket = punctuator_class (codes "[") ∷ []
classes_of terminal.CloseBracket = punctuator_class (codes "]") ∷ []
classes_of terminal.OpenBrace = punctuator_class (codes "{") ∷ []
classes_of terminal.Pipe = punctuator_class (codes "|") ∷ []
classes_of terminal.CloseBrace = punctuator_class (codes "}") ∷ []

-- the token is one of the terminal
abbrev pub IsTokenOf : Terminal → Token → Type 0
IsTokenOf k t = in_any (classes_of k) t ≡ true

abbrev pub terminals : List Terminal
terminals =
    terminal.Query ∷ terminal.Mutation ∷ terminal.Subscription ∷ terminal.Fragment ∷ terminal.On ∷ terminal.True ∷
    terminal.False ∷ terminal.Null ∷ terminal.Schema ∷ terminal.Extend ∷ terminal.Scalar ∷ terminal.«Type» ∷
    terminal.Interface ∷ terminal.Union ∷ terminal.Enum ∷ terminal.Input ∷ terminal.Directive ∷
    terminal.Implements ∷ terminal.Repeatable ∷ terminal.DirectiveLocation ∷ terminal.OtherName ∷
    terminal.IntValue ∷ terminal.FloatValue ∷ terminal.StringValue ∷ terminal.BlockString ∷ terminal.Bang ∷
    terminal.Dollar ∷ terminal.Ampersand ∷ terminal.OpenParen ∷ terminal.CloseParen ∷ terminal.Spread ∷
    terminal.Colon ∷ terminal.Equals ∷ terminal.At ∷ terminal.OpenBracket ∷ terminal.CloseBracket ∷
    terminal.OpenBrace ∷ terminal.Pipe ∷ terminal.CloseBrace ∷ []
