use Rattle.std.proofs.Common.{append_assoc}
use Rattle.graphql_core.proofs.{text_append, and_last}
use Rattle.graphql_query.proofs.print.selection.write_fragment_spread.Goals as goal

pub returns-clause-text : goal.returns-clause-text
returns-clause-text g c =
    let more = g.met.S.Sink.took_more in
    let named = more _ _ _ _ _ c.in_ok-write_spaces.ensures c.in_ok-push_two.ensures in
    let directives = rw c.deref.ensures.value at c.in_ok-write_directives.ensures.text in
    and_last g.S.Sink.took more _ _ _ _ _ _ _ (more _ _ _ _ _ named directives) c.push_str.ensures
    (rw c.view.ensures (simp (text_append, append_assoc)))
