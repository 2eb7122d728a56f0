use Rattle.std.proofs.Common.{◌+◌, ◌∷◌, ◌∙◌, ap, sym, refl}
use Rattle.graphql_core.specs.{text_of}
use Rattle.std.specs.List.{flat_map}
use Rattle.graphql_core.proofs.{and_last, braces_text, some_items}
use Rattle.graphql_schema.proofs.{filled_block}
use Rattle.graphql_schema.proofs.print.block.write_block.Goals as goal

pub returns-clause-text : goal.returns-clause-text
returns-clause-text g c =
    let more = g.met.S.Sink.took_more in
    let parts = c.args.parts.now in
    let lines = g.P.Pretty.lines c.args.style.now (c.args.margin + c.args.style.now.indent) in
    let some = some_items _ parts refl (sym c.is_empty.ensures ∙ c.if-is_empty.false) in
    let each = rw c.indentation.ensures at c.in_ok-write_each.ensures.text in
    and_last g.S.Sink.took more _ _ _ _ _ _ _ (more _ _ _ _ _ (more _ _ _ _ _ c.in_ok-push_str.ensures each) c.in_ok-write_spaces.ensures) c.push_str-3.ensures
    (ap (λ r. 32 ∷ r) (braces_text c.args.margin (flat_map lines parts)) ∙ ap text_of (filled_block c.args.margin lines parts some))
