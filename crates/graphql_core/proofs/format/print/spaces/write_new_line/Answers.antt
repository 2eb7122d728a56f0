use Rattle.std.proofs.Common.{ap, sym, ◌∷◌, ◌∙◌, append-nil}
use Rattle.graphql_core.specs.{spaces}
use Rattle.graphql_core.proofs.{and_alone, and_last, line_boundary, line_margin}
use Rattle.graphql_core.proofs.format.print.spaces.write_new_line.Goals as goal

pub returns-then-margin-gt-MOST : goal.returns-then-margin-gt-MOST
returns-then-margin-gt-MOST g c =
    and_last g.S.Sink.took g.met.S.Sink.took_more _ _ _ _ _ _ _ c.in_ok-push_str.ensures c.write_many_spaces.ensures
    (ap (λ r. 10 ∷ r) (sym (append-nil (spaces c.args.margin))))

pub range-requires-clause-end_boundary : goal.range-requires-clause-end_boundary
range-requires-clause-end_boundary g c = line_boundary c.args.margin c.if-margin-gt-MOST.false

pub returns : goal.returns
returns g c =
    and_alone g.S.Sink.took g.met.S.Sink.took_more _ _ _ _ _ c.push_start.ensures (c.range.ensures.value ∙ line_margin c.args.margin c.if-margin-gt-MOST.false)
