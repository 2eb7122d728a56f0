-- An input as a grammar sees it.
use Rattle.std.specs.Prelude.{List, []}
use Rattle.graphql_core.specs.grammar.Tokens.{Token}
use Rattle.graphql_core.specs.grammar.Trees.{Expr, Grammar, peek, Ends}

-- after the last token: the end of the input or an invalid token
pub data Ending : Type 0 where
  InputEnds InvalidToken : Ending

pub record Text : Type 0 where
  pub tokens : List Token
  pub ending : Ending

-- no derived list continues after `front` with the next token, invalid token or end of input
abbrev pub EndsAt : Grammar → Expr → List Token → List Token → Ending → Type 0
EndsAt g e front [] InvalidToken = Unit {0}
EndsAt g e front us ending = Ends g e front (peek us)
