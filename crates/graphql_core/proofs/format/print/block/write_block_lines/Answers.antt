use Rattle.std.proofs.Common.{◌++◌, ◌∙◌, ap, rules, sym}
use Rattle.std.specs.List.{flat_map}
use Rattle.graphql_core.specs.{block_line}
use Rattle.graphql_core.proofs.{and_part}
use Rattle.graphql_core.proofs.format.print.block.write_block_lines.Goals as goal

pub lines-preserved : goal.lines-preserved
lines-preserved g c =
    let (done, wrote, whole) = c.lines.invariant.written in
    let first = rw c.in-Some.is at c.split_line.ensures.lines in
    record {
      text = search rules;
      written = and_part g.S.Sink.took g.met.S.Sink.took_more _ _ _ done _ _ _ wrote c.in_ok-write_block_line.ensures
          (ap (λ ls. done ++ flat_map (block_line c.args.inside) ls) (sym first) ∙ whole);
    }
