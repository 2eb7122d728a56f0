use Rattle.std.proofs.Common.{arith, ◌∙◌, ◌++◌, ◌^◌, ap, sym}
use Rattle.graphql_core.specs.{text_of}
use Rattle.std.specs.List.{flat_map}
use Rattle.graphql_core.proofs.{text_append, and_part, item_here, narrower}
use Rattle.std.proofs.lemmas.Grind.{common_steps}
use Rattle.graphql_core.proofs.format.print.pretty.write_each.Goals as goal

pub parts-preserved : goal.parts-preserved
parts-preserved g c =
    let l = c.parts in
    let lines = g.P.Pretty.lines c.args.style.now c.args.margin in
    let here = item_here c.args.parts.now l.part-index c.part-item.result (omega arith) c.part-item.is in
    let (done, wrote, rest) = l.invariant.wrote in
    record {
      bound = (narrower _ _ _ c.args.style.now.indent (2 ^ 32) (rw here at l.invariant.bound)).1;
      wrote = and_part g.S.Sink.took g.met.S.Sink.took_more _ _ _ done _ _ _ wrote c.in_ok-write.ensures.text
          (ap (λ r. done ++ r) (sym (ap (λ ps. text_of (flat_map lines ps)) here ∙ text_append (lines c.part-item.result) _)) ∙ rest);
      well_formed = λ h. l.invariant.well_formed (rw here (c.in_ok-write.ensures.well_formed, h));
    }

pub offset_bounds-parts-part-index : goal.offset_bounds-parts-part-index
offset_bounds-parts-part-index g c = omega arith

pub write-requires : goal.write-requires
write-requires g c =
    let l = c.parts in
    let here = item_here c.args.parts.now l.part-index c.part-item.result (omega arith) c.part-item.is in
    (narrower _ _ _ c.args.style.now.indent (2 ^ 32) (rw here at l.invariant.bound)).0

pub returns-clause-text : goal.returns-clause-text
returns-clause-text g c = grind (arith, common_steps)

pub returns-clause-well_formed : goal.returns-clause-well_formed
returns-clause-well_formed g c = grind (arith, common_steps)
