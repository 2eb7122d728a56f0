use Rattle.std.proofs.Common.{arith}
use Rattle.std.proofs.lemmas.Result.{on_ok_weaker}
use Rattle.graphql_core.proofs.{and_alone, most_seen, all_seen, separated_seen}
use Rattle.graphql_query.specs.{IsWellFormedDefinition, definition_layout, definition_levels, definition_view}
use Rattle.graphql_query.proofs.print.definition.DocumentPretty.write.Goals as goal

pub write_joined-requires : goal.write_joined-requires
write_joined-requires g c =
    rw (c.deref.ensures.value, most_seen (definition_view g.N.Names.bytes) (definition_levels c.args.style.now) c.args.self.now.definitions.items)
    (omega (arith, c.requires))

pub returns-clause-text : goal.returns-clause-text
returns-clause-text g c = and_alone g.S.Sink.took g.met.S.Sink.took_more _ _ _ _ _ c.write_joined.ensures.text
    (rw c.deref.ensures.value (separated_seen (definition_view g.N.Names.bytes) (definition_layout c.args.style.now) c.args.self.now.definitions.items))

pub returns-clause-well_formed : goal.returns-clause-well_formed
returns-clause-well_formed g c =
    on_ok_weaker c.write_joined.result (all_seen (definition_view g.N.Names.bytes) IsWellFormedDefinition c.args.self.now.definitions.items)
    (rw c.deref.ensures.value at c.write_joined.ensures.well_formed)
