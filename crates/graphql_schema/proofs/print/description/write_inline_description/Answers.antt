use Rattle.graphql_core.proofs.{text_append, and_last}
use Rattle.graphql_schema.proofs.print.description.write_inline_description.Goals as goal

pub returns : goal.returns
returns g c =
    rw c.in-Some.is
    (and_last g.S.Sink.took g.met.S.Sink.took_more _ _ _ _ _ _ _ c.in_ok-write_string.ensures c.push_str.ensures
    (rw c.as_str.ensures.value (simp text_append)))
