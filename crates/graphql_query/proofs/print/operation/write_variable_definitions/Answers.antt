use Rattle.std.proofs.Common.{◌∙◌, ◌<◌, ◌*◌, ◌^◌, map, arith, refl, sym}
use Rattle.graphql_core.specs.{most}
use Rattle.graphql_core.proofs.{and_last, on_ok, some_items, most_seen, all_seen, in_parentheses_seen}
use Rattle.graphql_query.specs.{IsWellFormedVariable, variable_definition_layout, variable_definition_levels, variable_definition_view}
use Rattle.graphql_query.proofs.print.operation.write_variable_definitions.Goals as goal

pub write_joined-requires : goal.write_joined-requires
write_joined-requires g c =
    let view = variable_definition_view g.N.Names.bytes in
    let levels = variable_definition_levels c.args.style.now in
    let fits : most levels (map view c.args.variables.now) * c.args.style.now.indent < 2 ^ 32 = c.requires in
    rw (most_seen view levels c.args.variables.now) (omega (arith, fits))

pub returns-clause-text : goal.returns-clause-text
returns-clause-text g c =
    let more = g.met.S.Sink.took_more in
    let some = some_items _ c.args.variables.now refl (sym c.is_empty.ensures ∙ c.if-is_empty.false) in
    and_last g.S.Sink.took more _ _ _ _ _ _ _ (more _ _ _ _ _ c.in_ok-push_str.ensures c.in_ok-write_joined.ensures.text) c.push_str-2.ensures
    (in_parentheses_seen (variable_definition_view g.N.Names.bytes) (variable_definition_layout c.args.style.now) c.args.variables.now some)

pub returns-clause-well_formed : goal.returns-clause-well_formed
returns-clause-well_formed g c =
    on_ok c.push_str-2.result
    (all_seen (variable_definition_view g.N.Names.bytes) IsWellFormedVariable c.args.variables.now c.in_ok-write_joined.ensures.well_formed)
