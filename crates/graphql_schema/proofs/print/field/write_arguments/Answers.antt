use Rattle.std.proofs.Common.{◌∙◌, sym, refl}
use Rattle.graphql_core.proofs.{and_last, on_ok, some_items, most_seen, all_seen, in_parentheses_seen}
use Rattle.graphql_schema.specs.{input_value_layout, input_value_levels, IsWellFormedInputValue, input_value_view}
use Rattle.graphql_schema.proofs.print.field.write_arguments.Goals as goal

pub write_joined-requires : goal.write_joined-requires
write_joined-requires g c = rw (most_seen (input_value_view g.N.Names.bytes) (input_value_levels c.args.style.now) c.args.arguments.now) c.requires

pub returns-clause-text : goal.returns-clause-text
returns-clause-text g c =
    let more = g.met.S.Sink.took_more in
    let some = some_items _ c.args.arguments.now refl (sym c.is_empty.ensures ∙ c.if-is_empty.false) in
    and_last g.S.Sink.took more _ _ _ _ _ _ _ (more _ _ _ _ _ c.in_ok-push_str.ensures c.in_ok-write_joined.ensures.text) c.push_str-2.ensures
    (in_parentheses_seen (input_value_view g.N.Names.bytes) (input_value_layout c.args.style.now c.args.margin) c.args.arguments.now some)

pub returns-clause-well_formed : goal.returns-clause-well_formed
returns-clause-well_formed g c =
    on_ok c.push_str-2.result (all_seen (input_value_view g.N.Names.bytes) IsWellFormedInputValue c.args.arguments.now c.in_ok-write_joined.ensures.well_formed)
