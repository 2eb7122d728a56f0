use Rattle.graphql_core.specs.{items_since}
use Rattle.graphql_core.proofs.helpers.cursor.CursorTokenSource.fault.Goals as goal

pub returns-in-Token : goal.returns-in-Token
returns-in-Token g c =
    let s = c.self.inside in
    rw (← c.self.view_is, c.in-Token.is) (c.fault_of_token.ensures (items_since s.first_cuts s.stream))
