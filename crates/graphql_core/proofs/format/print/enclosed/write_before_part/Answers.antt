use Rattle.std.proofs.Common.{◌≡◌, true, codes, rules}
use Rattle.graphql_core.proofs.{and_last, and_alone, before_first, before_later}
use Rattle.graphql_core.proofs.format.print.enclosed.write_before_part.Goals.{then-is_later-2+in_ok-push_str, else-is_later-2}
use Rattle.graphql_core.proofs.format.print.enclosed.write_before_part.Goals as goal

pub returns : goal.returns
returns g c =
    let took = g.S.Sink.took in
    let more = g.met.S.Sink.took_more in
    let style = c.args.style.now in
    let lines : style.multiline ≡ true = search rules in
    elim c.if-is_later-2.branch [
      | then-is_later-2+in_ok-push_str w ↦ and_last took more _ c.args.out.now c.if-is_later-2.out _ (codes ",") _ _
          (rw w.out-is w.in_ok-push_str.ensures) c.write_new_line.ensures (before_later style c.args.margin c.args.is_later lines w.if-is_later-2.true)
      | else-is_later-2 w ↦ and_alone took more _ _ _ _ _ (rw w.out-is at c.write_new_line.ensures)
          (before_first style c.args.margin c.args.is_later lines w.if-is_later-2.false)
    ]
