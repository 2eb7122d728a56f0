use Rattle.graphql_walk.proofs.Calls.{walk_calls}
use Rattle.graphql_walk.proofs.laws.walks_call_all_events.Goals as goal

pub returns : goal.returns
returns g c = λ b s r t w. walk_calls g.V.Visitor.visited c.requires b s t r w
