use Rattle.std.proofs.Common.{arith, ◌∙◌, ◌++◌, codes, ap, sym, refl}
use Rattle.graphql_core.proofs.{and_part}
use Rattle.graphql_schema.specs.{word_of}
use Rattle.graphql_schema.proofs.{name_here}
use Rattle.graphql_schema.proofs.print.names.write_locations.Goals as goal

pub others-init : goal.others-init
others-init g c =
    record { wrote = (_, c.in_ok-push_two.ensures, rw (c.as_str.ensures, c.in-Some.ensures.cases.0) refl) }

pub others-preserved : goal.others-preserved
others-preserved g c =
    let l = c.others in
    let more = g.met.S.Sink.took_more in
    let here = name_here word_of (codes "|") c.in-Some.others.now l.location-index _ _ (omega arith) refl in
    let (done, wrote, rest) = l.invariant.wrote in
    record {
      wrote = and_part g.S.Sink.took more _ _ _ done _ _ _ wrote (more _ _ _ _ _ c.in_ok-write_between.ensures c.in_ok-push_str.ensures)
          (rw c.as_str-in-others.ensures (ap (λ r. done ++ r) (sym here) ∙ rest));
    }
