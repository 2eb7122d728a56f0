use Rattle.std.proofs.Common.{◌∙◌}
use Rattle.graphql_core.proofs.{and_alone, line_boundary, line_spaces}
use Rattle.graphql_core.proofs.format.print.spaces.write_wide_margin.Goals as goal

pub range-requires-clause-end_boundary : goal.range-requires-clause-end_boundary
range-requires-clause-end_boundary g c = line_boundary c.args.count c.if-count-gt-MOST.false

pub returns : goal.returns
returns g c =
    and_alone g.S.Sink.took g.met.S.Sink.took_more _ _ _ _ _ c.push_start.ensures (c.range.ensures.value ∙ line_spaces c.args.count c.if-count-gt-MOST.false)
