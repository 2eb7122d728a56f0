use Rattle.std.proofs.Common.{◌≡◌, ◌∙◌, length, sym, subst, eqb-true, arith, rules}
use Rattle.std.specs.Str.Lines.{lines}
use Rattle.graphql_core.specs.steps.BlockShape.{IsShape}
use Rattle.graphql_core.proofs.{is_within, line_at, left_after, none_left}
use Rattle.graphql_core.proofs.common.strings.block.shape_of.Goals as goal

pub lines-preserved : goal.lines-preserved
lines-preserved c =
    let ls = lines c.args.content.now in
    let k = c.lines.index in
    let rest = c.lines.rest.now in
    let line = c.first_line.result.0.now in
    let after = c.first_line.result.1.now in
    let left = c.lines.invariant.left in
    let first = c.first_line.ensures.lines in
    let within = is_within ls k rest line after left first in
    record {
      text = search rules;
      short = omega (arith, c.first_line.ensures.shorter, c.lines.invariant.short);
      within = omega (arith, within);
      left = left_after ls k rest line after left first;
      is = c.with_line-shape.ensures ls within (line_at ls k rest line after left first) c.lines.invariant.is;
    }

pub returns : goal.returns
returns c =
    let ls = lines c.args.content.now in
    let rest = c.lines.rest.now in
    let empty = eqb-true (length rest) 0 (sym c.is_empty.ensures ∙ c.lines-test.false) in
    let none = none_left ls c.lines.index rest c.lines.invariant.left empty in
    let all : c.lines.index ≡ length ls = omega (arith, none, c.lines.invariant.within) in
    subst (λ n. IsShape c.lines.shape n ls) all c.lines.invariant.is
