use Rattle.std.proofs.Common.{◌^◌}
use Rattle.graphql_core.proofs.{and_last, on_ok, narrower}
use Rattle.graphql_schema.specs.{field_view}
use Rattle.graphql_schema.proofs.{field_text}
use Rattle.graphql_schema.proofs.print.field.FieldPretty.write.Goals as goal

pub write_arguments-requires : goal.write_arguments-requires
write_arguments-requires g c =
    let indent = c.args.style.now.indent in
    let after = (narrower c.args.margin _ _ indent (2 ^ 32) c.requires).1 in
    rw c.deref.ensures.value ((narrower c.args.margin _ _ indent (2 ^ 32) after).0)

pub write_directives-requires : goal.write_directives-requires
write_directives-requires g c =
    let indent = c.args.style.now.indent in
    let described = (narrower c.args.margin _ _ indent (2 ^ 32) c.requires).1 in
    let given = (narrower c.args.margin _ _ indent (2 ^ 32) described).1 in
    rw c.deref-2.ensures.value ((narrower c.args.margin _ _ indent (2 ^ 32) given).1)

pub returns-clause-text : goal.returns-clause-text
returns-clause-text g c =
    let more = g.met.S.Sink.took_more in
    let arguments = rw c.deref.ensures.value at c.in_ok-write_arguments.ensures.text in
    let described = more _ _ _ _ _ c.in_ok-write_description.ensures c.in_ok-write_spaces.ensures in
    let named = more _ _ _ _ _ (more _ _ _ _ _ (more _ _ _ _ _ described c.in_ok-push_str.ensures) arguments) c.in_ok-push_str-2.ensures in
    let directives = rw c.deref-2.ensures.value at c.in_ok-write_directives.ensures.text in
    let written = more _ _ _ _ _ (more _ _ _ _ _ named c.in_ok-write_type.ensures) directives in
    and_last g.S.Sink.took more _ _ _ _ _ _ _ written c.push_str-3.ensures
    (rw c.view.ensures (field_text c.args.style.now c.args.margin (field_view g.N.Names.bytes c.args.self.now)))

pub returns-clause-well_formed : goal.returns-clause-well_formed
returns-clause-well_formed g c =
    let arguments = rw c.deref.ensures.value at c.in_ok-write_arguments.ensures.well_formed in
    let directives = rw c.deref-2.ensures.value at c.in_ok-write_directives.ensures.well_formed in
    on_ok c.push_str-3.result (arguments, directives)
