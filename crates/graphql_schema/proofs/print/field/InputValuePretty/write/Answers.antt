use Rattle.std.proofs.Common.{◌^◌}
use Rattle.graphql_core.proofs.{and_last, narrower}
use Rattle.graphql_schema.specs.{input_value_view}
use Rattle.graphql_schema.proofs.{input_value_text}
use Rattle.graphql_schema.proofs.print.field.InputValuePretty.write.Goals as goal

pub write_directives-requires : goal.write_directives-requires
write_directives-requires g c =
    let style = c.args.style.now in
    let described = (narrower c.args.margin _ _ style.indent (2 ^ 32) c.requires).1 in
    let typed = (narrower c.args.margin _ _ style.indent (2 ^ 32) described).1 in
    rw c.deref.ensures.value ((narrower c.args.margin _ _ style.indent (2 ^ 32) typed).1)

pub returns-clause-text : goal.returns-clause-text
returns-clause-text g c =
    let more = g.met.S.Sink.took_more in
    let named = more _ _ _ _ _ (more _ _ _ _ _ c.in_ok-write_inline_description.ensures c.in_ok-push_str.ensures) c.in_ok-push_str-2.ensures in
    let typed = more _ _ _ _ _ named c.in_ok-write_type.ensures in
    let directives = rw c.deref.ensures.value at c.write_directives.ensures.text in
    and_last g.S.Sink.took more _ _ _ _ _ _ _ (more _ _ _ _ _ typed c.in_ok-write_default.ensures.text) directives
    (rw c.view.ensures (input_value_text c.args.style.now c.args.margin (input_value_view g.N.Names.bytes c.args.self.now)))
