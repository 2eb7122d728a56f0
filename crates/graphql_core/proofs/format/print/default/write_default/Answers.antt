use Rattle.std.proofs.Common.{refl}
use Rattle.graphql_core.proofs.{and_last}
use Rattle.graphql_core.proofs.format.print.default.write_default.Goals as goal

pub returns-clause-text : goal.returns-clause-text
returns-clause-text g c = rw c.in-Some.is (and_last g.S.Sink.took g.met.S.Sink.took_more _ _ _ _ _ _ _ c.in_ok-push_str.ensures c.write_value.ensures.text refl)
