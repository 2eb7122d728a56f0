use Rattle.std.proofs.Common.{arith, ◌^◌}
use Rattle.graphql_core.proofs.{and_last}
use Rattle.graphql_schema.specs.{directive_definition_view}
use Rattle.graphql_schema.proofs.{latter_fits, directive_definition_text}
use Rattle.graphql_schema.proofs.print.definition.DirectiveDefinitionPretty.write.Goals as goal

pub write_arguments-requires : goal.write_arguments-requires
write_arguments-requires g c =
    let fits = latter_fits c.args._margin _ _ c.args.style.now.indent (2 ^ 32) c.requires in
    rw c.deref.ensures.value (omega (arith, fits))

pub returns-clause-text : goal.returns-clause-text
returns-clause-text g c =
    let more = g.met.S.Sink.took_more in
    let arguments = rw c.deref.ensures.value at c.in_ok-write_arguments.ensures.text in
    let locations = rw c.deref-2.ensures.value at c.in_ok-write_locations.ensures in
    let named = more _ _ _ _ _ (more _ _ _ _ _ c.in_ok-write_description.ensures c.in_ok-push_str.ensures) c.in_ok-push_str-2.ensures in
    let written = more _ _ _ _ _ (more _ _ _ _ _ (more _ _ _ _ _ named arguments) c.in_ok-write_repeatable.ensures) locations in
    and_last g.S.Sink.took more _ _ _ _ _ _ _ written c.push_str-3.ensures
    (rw c.view.ensures (directive_definition_text c.args.style.now (directive_definition_view g.N.Names.bytes c.args.self.now)))
