use Rattle.std.proofs.Common.{sym, ◌∙◌}
use Rattle.graphql_core.specs.{text_of, after_parts}
use Rattle.graphql_core.proofs.{alike, and_last, after_lines, after_none, closed_text}
use Rattle.graphql_core.proofs.format.print.enclosed.write_closer.Goals.{then-has_multiline_arguments+in_ok-write_new_line, else-has_multiline_arguments}
use Rattle.graphql_core.proofs.format.print.enclosed.write_closer.Goals as goal

pub returns : goal.returns
returns g c =
    let took = g.S.Sink.took in
    let more = g.met.S.Sink.took_more in
    let style = c.args.style.now in
    let margin = c.args.margin in
    let after : took c.args.out.now (text_of (after_parts style margin)) c.if-has_multiline_arguments.out = elim c.if-has_multiline_arguments.branch [
      | then-has_multiline_arguments+in_ok-write_new_line w ↦ rw w.out-is
          (alike took more _ _ _ _
          (after_lines style margin (sym c.has_multiline_arguments.ensures ∙ w.if-has_multiline_arguments.true)) w.in_ok-write_new_line.ensures)
      | else-has_multiline_arguments w ↦ rw w.out-is
          (alike took more _ _ _ _ (after_none style margin (sym c.has_multiline_arguments.ensures ∙ w.if-has_multiline_arguments.false))
          (g.met.S.Sink.took_nil _))
    ] in
    and_last took more _ _ _ _ _ _ _ after c.push_str.ensures (closed_text (after_parts style margin) c.args.closer.now)
