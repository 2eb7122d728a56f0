use Rattle.graphql_core.proofs.{and_last}
use Rattle.graphql_schema.specs.{body_seen}
use Rattle.graphql_schema.proofs.{body_text}
use Rattle.graphql_schema.proofs.print.body.BodyPretty.write.Goals as goal

pub returns-clause-text : goal.returns-clause-text
returns-clause-text g c =
    let more = g.met.S.Sink.took_more in
    let named = more _ _ _ _ _ (more _ _ _ _ _ c.in_ok-push_str.ensures c.in_ok-push_str-2.ensures) c.in_ok-write_interfaces.ensures in
    and_last g.S.Sink.took more _ _ _ _ _ _ _ (more _ _ _ _ _ named c.in_ok-write_directives.ensures.text) c.write.ensures.text
    (rw (c.keyword.ensures, c.view.ensures, c.interfaces.ensures) (body_text c.args.style.now (body_seen g.N.Names.bytes c.args.self.now)))
