use Rattle.std.proofs.Common.{option_map, refl, string_bytes, sym}
use Rattle.graphql_core.proofs.{and_last, text_append}
use Rattle.graphql_schema.specs.{description_layout, body_layout, body_seen}
use Rattle.graphql_schema.proofs.print.body.OutlinePretty.write.Goals as goal

pub returns-in_ok-write_description-in-Definition-clause-text : goal.returns-in_ok-write_description-in-Definition-clause-text
returns-in_ok-write_description-in-Definition-clause-text g c =
    let style = c.args.style.now in
    let described = description_layout style 0 (option_map string_bytes c.in-Definition.description.now) in
    let text = sym (text_append described (body_layout style (body_seen g.N.Names.bytes c.in-Definition.body))) in
    rw c.in-Definition.is
    (and_last g.S.Sink.took g.met.S.Sink.took_more _ _ _ _ _ _ _ c.in_ok-write_description-in-Definition.ensures c.write.ensures.text text)

pub returns-in_ok-push_str-in-Extension-clause-text : goal.returns-in_ok-push_str-in-Extension-clause-text
returns-in_ok-push_str-in-Extension-clause-text g c =
    rw c.in-Extension.is
    (and_last g.S.Sink.took g.met.S.Sink.took_more _ _ _ _ _ _ _ c.in_ok-push_str-in-Extension.ensures c.write-in-Extension.ensures.text refl)
