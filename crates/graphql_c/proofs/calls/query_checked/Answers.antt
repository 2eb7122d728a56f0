use Rattle.graphql_c.proofs.calls.query_checked.Goals as goal

pub returns : goal.returns
returns c = (c.in_ok-query_of.ensures.0, (_, c.in_ok-query_of.ensures.1, c.new.ensures.bytes))
