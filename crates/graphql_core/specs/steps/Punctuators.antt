-- The punctuators (GraphQL, October 2021, section 2.1.8), and the byte that each begins with.
use Rattle.std.specs.Prelude.{ℕ, List, [], ◌∷◌, codes}
use Rattle.graphql_core.specs.grammar.{Token, Class, Spelled}
use Rattle.graphql_core.specs.declared.helpers.punctuator.Punctuator.{Punctuator}
use Rattle.graphql_core.specs.declared.helpers.punctuator.Punctuator.TheVariants.{Bang, Dollar, Ampersand, OpenParen}
use Rattle.graphql_core.specs.declared.helpers.punctuator.Punctuator.TheVariants.{CloseParen, Spread, Colon, Equals, At}
use Rattle.graphql_core.specs.declared.helpers.punctuator.Punctuator.TheVariants.{OpenBracket, CloseBracket, OpenBrace}
use Rattle.graphql_core.specs.declared.helpers.punctuator.Punctuator.TheVariants.{Pipe, CloseBrace}
use Rattle.graphql_core.specs.sources.{kind_number}
use Rattle.graphql_core.specs.declared.tokenizer.token.Kind.TheVariants as kinds

abbrev pub spelling_of : Punctuator → List ℕ
spelling_of Bang = codes "!"
spelling_of Dollar = codes "$"
spelling_of Ampersand = codes "&"
spelling_of OpenParen = codes "("
spelling_of CloseParen = codes ")"
spelling_of Spread = codes "..."
spelling_of Colon = codes ":"
spelling_of Equals = codes "="
spelling_of At = codes "@"
spelling_of OpenBracket = codes "["
spelling_of CloseBracket = codes "]"
spelling_of OpenBrace = codes "{"
spelling_of Pipe = codes "|"
spelling_of CloseBrace = codes "}"

-- the tokens that are this punctuator
abbrev pub class_of : Punctuator → Class
class_of m = Spelled (kind_number kinds.Punctuator) (spelling_of m)

-- the first byte of a spelling, 0 if there is none
abbrev pub first_byte : List ℕ → ℕ
first_byte [] = 0
first_byte (b ∷ bs) = b

-- the first byte of the first token, 0 if there is none
abbrev pub front_byte : List Token → ℕ
front_byte [] = 0
front_byte (t ∷ ts) = first_byte t.spelling
