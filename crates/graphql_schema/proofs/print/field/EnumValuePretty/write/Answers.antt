use Rattle.graphql_core.proofs.{and_last}
use Rattle.graphql_schema.specs.{enum_value_view}
use Rattle.graphql_schema.proofs.{enum_value_text}
use Rattle.graphql_schema.proofs.print.field.EnumValuePretty.write.Goals as goal

pub returns-clause-text : goal.returns-clause-text
returns-clause-text g c =
    let more = g.met.S.Sink.took_more in
    let named = more _ _ _ _ _ (more _ _ _ _ _ c.in_ok-write_spaces.ensures c.in_ok-write_inline_description.ensures) c.in_ok-push_str.ensures in
    let directives = rw c.deref.ensures.value at c.in_ok-write_directives.ensures.text in
    and_last g.S.Sink.took more _ _ _ _ _ _ _ (more _ _ _ _ _ named directives) c.push_str-2.ensures
    (rw c.view.ensures (enum_value_text c.args.style.now c.args.margin (enum_value_view g.N.Names.bytes c.args.self.now)))
