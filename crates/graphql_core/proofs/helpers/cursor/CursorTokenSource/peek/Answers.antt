use Rattle.graphql_core.specs.{IsLexeme}
use Rattle.std.proofs.lemmas.List.Elements.{All-head}
use Rattle.graphql_core.proofs.helpers.cursor.CursorTokenSource.peek.Goals as goal

pub returns-in-Token-clause-lexeme : goal.returns-in-Token-clause-lexeme
returns-in-Token-clause-lexeme g c = All-head IsLexeme _ _ (rw c.in-Token.is at c.self.invariant.0)
