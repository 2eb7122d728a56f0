use Rattle.graphql_c.specs.{not_utf8}
use Rattle.graphql_c.proofs.{explains_as}
use Rattle.graphql_c.proofs.calls.text_of.Goals as goal

pub returns-in-Err : goal.returns-in-Err
returns-in-Err c = explains_as c.not_utf8.ensures (not_utf8 c.in-Err.ensures.cases.0)
