use Rattle.std.proofs.Common.{arith, ◌∙◌, ◌+◌, ◌++◌, ◌^◌, [], ap, drop, map, refl, sym}
use Rattle.graphql_core.specs.{text_of}
use Rattle.std.specs.List.{flat_map}
use Rattle.graphql_core.proofs.{text_append, and_part, item_here, narrower}
use Rattle.graphql_schema.specs.{input_field_layout, input_value_view}
use Rattle.graphql_schema.proofs.{input_field_text}
use Rattle.graphql_schema.proofs.print.parts.write_input_fields.Goals as goal

pub write-requires : goal.write-requires
write-requires g c =
    let l = c.fields in
    let here = item_here c.args.fields.now l.field-index c.field-item.result (omega arith) c.field-item.is in
    (narrower _ _ _ c.args.style.now.indent (2 ^ 32) (rw here at l.invariant.bound)).0

pub fields-init : goal.fields-init
fields-init g c = record { bound = c.requires; wrote = ([], g.met.S.Sink.took_nil _, refl); well_formed = λ h. h }

pub fields-preserved : goal.fields-preserved
fields-preserved g c =
    let l = c.fields in
    let here = item_here c.args.fields.now l.field-index c.field-item.result (omega arith) c.field-item.is in
    let more = g.met.S.Sink.took_more in
    let view = input_value_view g.N.Names.bytes in
    let lines = input_field_layout c.args.style.now c.args.margin in
    let later = flat_map lines (map view (drop (l.field-index + 1) c.args.fields.now)) in
    let one = input_field_text c.args.style.now c.args.margin (view c.field-item.result) in
    let next = ap (λ fs. text_of (flat_map lines (map view fs))) here ∙ text_append (lines (view c.field-item.result)) later in
    let (done, wrote, rest) = l.invariant.wrote in
    let written = more _ _ _ _ _ (more _ _ _ _ _ c.in_ok-write_spaces.ensures c.in_ok-write.ensures.text) c.in_ok-push_str.ensures in
    record {
      bound = (narrower _ _ _ c.args.style.now.indent (2 ^ 32) (rw here at l.invariant.bound)).1;
      wrote = and_part g.S.Sink.took more _ _ _ done _ _ _ wrote written (ap (λ r. done ++ r) (ap (λ r. r ++ text_of later) one ∙ sym next) ∙ rest);
      well_formed = λ h. l.invariant.well_formed (rw here (c.in_ok-write.ensures.well_formed, h));
    }
