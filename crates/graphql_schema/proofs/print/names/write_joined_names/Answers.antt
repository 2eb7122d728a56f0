use Rattle.std.proofs.Common.{arith, ◌∙◌, ◌++◌, ap, sym}
use Rattle.graphql_core.proofs.{and_part}
use Rattle.graphql_schema.proofs.{name_here}
use Rattle.graphql_schema.proofs.print.names.write_joined_names.Goals as goal

pub others-preserved : goal.others-preserved
others-preserved g c =
    let l = c.others in
    let more = g.met.S.Sink.took_more in
    let here = name_here g.N.Names.bytes c.args.separator.now c.in-Some.others.now l.name-index _ c.name-item.result (omega arith) c.name-item.is in
    let (done, wrote, rest) = l.invariant.wrote in
    record {
      wrote = and_part g.S.Sink.took more _ _ _ done _ _ _ wrote (more _ _ _ _ _ c.in_ok-write_between.ensures c.in_ok-push_str-2.ensures)
          (rw c.view-in-others.ensures (ap (λ r. done ++ r) (sym here) ∙ rest));
    }
