use Rattle.std.proofs.Common.{arith, ◌∙◌, ◌++◌, ◌^◌, ℕ, List, ap, sym, map}
use Rattle.graphql_core.specs.{text_of}
use Rattle.std.specs.List.{flat_map}
use Rattle.graphql_core.proofs.{and_part, item_here, narrower}
use Rattle.std.proofs.lemmas.Grind.{common_steps}
use Rattle.graphql_core.proofs.format.print.pretty.write_joined.Goals as goal

pub others-preserved : goal.others-preserved
others-preserved g c =
    let l = c.others in
    let lines = g.P.Pretty.lines c.args.style.now c.args.margin in
    let separator = c.args.separator.now in
    let here = item_here c.in-Some.others.now l.part-index c.part-item.result (omega arith) c.part-item.is in
    let (done, wrote, rest) = l.invariant.wrote in
    record {
      bound = (narrower _ _ _ c.args.style.now.indent (2 ^ 32) (rw here at l.invariant.bound)).1;
      wrote = and_part g.S.Sink.took g.met.S.Sink.took_more _ _ _ done _ _ _ wrote
          (g.met.S.Sink.took_more _ _ _ _ _ c.in_ok-push_str.ensures c.in_ok-write-2.ensures.text)
          (ap (λ r. done ++ r) (sym (ap (λ ps. flat_map (λ (u : List ℕ). separator ++ u) (map (λ p. text_of (lines p)) ps)) here)) ∙ rest);
      well_formed = λ h. l.invariant.well_formed (rw here (c.in_ok-write-2.ensures.well_formed, h));
    }

pub offset_bounds-others-part-index : goal.offset_bounds-others-part-index
offset_bounds-others-part-index g c = omega arith

pub write-requires-in-others : goal.write-requires-in-others
write-requires-in-others g c =
    let l = c.others in
    let here = item_here c.in-Some.others.now l.part-index c.part-item.result (omega arith) c.part-item.is in
    (narrower _ _ _ c.args.style.now.indent (2 ^ 32) (rw here at l.invariant.bound)).0

pub write-requires : goal.write-requires
write-requires g c = grind (arith, common_steps)

pub returns-in_default-clause-text : goal.returns-in_default-clause-text
returns-in_default-clause-text g c = grind (arith, common_steps)

pub returns-clause-text : goal.returns-clause-text
returns-clause-text g c = grind (arith, common_steps)

pub returns-clause-well_formed : goal.returns-clause-well_formed
returns-clause-well_formed g c = grind (arith, common_steps)
