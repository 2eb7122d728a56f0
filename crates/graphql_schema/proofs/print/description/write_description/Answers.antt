use Rattle.std.proofs.Common.{append_assoc}
use Rattle.graphql_core.proofs.{text_append, and_last}
use Rattle.graphql_schema.proofs.print.description.write_description.Goals as goal

pub returns : goal.returns
returns g c =
    let more = g.met.S.Sink.took_more in
    rw c.in-Some.is
    (and_last g.S.Sink.took more _ _ _ _ _ _ _ (more _ _ _ _ _ c.in_ok-write_spaces.ensures c.in_ok-write_string.ensures) c.push_str.ensures
    (rw c.as_str.ensures.value (simp (text_append, append_assoc))))
