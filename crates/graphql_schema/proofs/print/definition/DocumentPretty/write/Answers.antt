use Rattle.std.proofs.Common.{◌+◌, ◌*◌, ◌<◌, ◌^◌, arith, map}
use Rattle.graphql_core.specs.{most}
use Rattle.std.proofs.lemmas.Result.{on_ok_weaker}
use Rattle.graphql_core.proofs.{and_alone, most_seen, all_seen, separated_seen}
use Rattle.graphql_schema.specs.{IsWellFormedDefinition, definition_layout, definition_levels, definition_view}
use Rattle.graphql_schema.proofs.print.definition.DocumentPretty.write.Goals as goal

pub write_joined-requires : goal.write_joined-requires
write_joined-requires g c =
    let style = c.args.style.now in
    let view = definition_view g.N.Names.bytes in
    let definitions = c.args.self.now.definitions.items in
    let fits : c.args._margin + most (definition_levels style) (map view definitions) * style.indent < 2 ^ 32 = c.requires in
    rw (c.deref.ensures.value, most_seen view (definition_levels style) definitions) (omega (arith, fits))

pub returns-clause-text : goal.returns-clause-text
returns-clause-text g c =
    let definitions = c.args.self.now.definitions.items in
    and_alone g.S.Sink.took g.met.S.Sink.took_more _ _ _ _ _ (rw c.deref.ensures.value at c.write_joined.ensures.text)
    (separated_seen (definition_view g.N.Names.bytes) (definition_layout c.args.style.now) definitions)

pub returns-clause-well_formed : goal.returns-clause-well_formed
returns-clause-well_formed g c =
    on_ok_weaker c.write_joined.result (all_seen (definition_view g.N.Names.bytes) IsWellFormedDefinition c.args.self.now.definitions.items)
    (rw c.deref.ensures.value at c.write_joined.ensures.well_formed)
