use Rattle.std.proofs.Common.{◌<◌, ◌^◌, ◌∙◌, ap, length, map, sym, refl}
use Rattle.std.proofs.lemmas.List.{length-map}
use Rattle.graphql_core.specs.{text_of}
use Rattle.std.specs.List.{flat_map}
use Rattle.graphql_core.proofs.{and_last, some_items}
use Rattle.graphql_schema.specs.{input_field_layout, input_value_levels, input_value_view}
use Rattle.graphql_schema.proofs.{lines_text, filled_block, lines_fit}
use Rattle.graphql_schema.proofs.print.parts.write_input_block.Goals as goal

pub write_input_fields-requires : goal.write_input_fields-requires
write_input_fields-requires g c =
    let style = c.args.style.now in
    let view = input_value_view g.N.Names.bytes in
    let some = some_items _ c.args.fields.now refl (sym c.is_empty.ensures ∙ c.if-is_empty.false) in
    let seen : 0 < length (map view c.args.fields.now) = rw (length-map c.args.fields.now view) some in
    rw c.indentation.ensures (lines_fit (input_value_levels style) (map view c.args.fields.now) style.indent (2 ^ 32) seen c.requires)

pub returns-clause-text : goal.returns-clause-text
returns-clause-text g c =
    let more = g.met.S.Sink.took_more in
    let style = c.args.style.now in
    let fields = map (input_value_view g.N.Names.bytes) c.args.fields.now in
    let some = some_items _ c.args.fields.now refl (sym c.is_empty.ensures ∙ c.if-is_empty.false) in
    let seen : 0 < length fields = rw (length-map c.args.fields.now (input_value_view g.N.Names.bytes)) some in
    let lines = input_field_layout style style.indent in
    let inside = rw c.indentation.ensures at c.in_ok-write_input_fields.ensures.text in
    and_last g.S.Sink.took more _ _ _ _ _ _ _ (more _ _ _ _ _ c.in_ok-push_str.ensures inside) c.push_str-3.ensures
    (lines_text (flat_map lines fields) ∙ ap text_of (filled_block 0 lines fields seen))
