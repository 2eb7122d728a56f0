use Rattle.std.proofs.Common.{refl}
use Rattle.graphql_core.proofs.{and_last}
use Rattle.graphql_query.proofs.print.selection.write_optional_type_condition.Goals as goal

pub returns : goal.returns
returns g c = rw c.in-Some.is (and_last g.S.Sink.took g.met.S.Sink.took_more _ _ _ _ _ _ _ c.in_ok-push_str.ensures c.write_type_condition.ensures refl)
