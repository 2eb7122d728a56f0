use Rattle.graphql_core.proofs.{and_last}
use Rattle.graphql_schema.proofs.{root_text}
use Rattle.graphql_schema.proofs.print.schema.write_root.Goals as goal

pub returns : goal.returns
returns g c =
    let more = g.met.S.Sink.took_more in
    let word = more _ _ _ _ _ (more _ _ _ _ _ c.in_ok-write_spaces.ensures c.in_ok-push_str.ensures) c.in_ok-push_str-2.ensures in
    rw c.in-Some.is
    (and_last g.S.Sink.took more _ _ _ _ _ _ _ (more _ _ _ _ _ word c.in_ok-push_str-3.ensures) c.push_str-4.ensures
    (rw c.view.ensures (root_text c.args.margin c.args.word.now (g.N.Names.bytes c.in-Some.name))))
