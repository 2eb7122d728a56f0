use Rattle.std.proofs.Common.{arith, rules}
use Rattle.std.specs.Str.Lines.{lines}
use Rattle.graphql_core.proofs.{some_left, left_after}
use Rattle.graphql_core.proofs.common.strings.block.after_lines.Goals as goal

pub first_line-requires : goal.first_line-requires
first_line-requires c = some_left (lines c.args.content.now) c.lines.index c.lines.rest.now c.lines.invariant.left (omega arith)

pub lines-preserved : goal.lines-preserved
lines-preserved c = record {
  text = search rules;
  within = omega arith;
  left = left_after (lines c.args.content.now) c.lines.index c.lines.rest.now c.first_line.result.0.now c.first_line.result.1.now
      c.lines.invariant.left c.first_line.ensures.lines;
}
