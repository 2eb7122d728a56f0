use Rattle.std.proofs.Common.{◌≡◌, ◌∙◌, sym, true, false}
use Rattle.graphql_core.specs.{lines_of}
use Rattle.graphql_core.proofs.{is_whole, all_whole, first_not_whole, last_whole}
use Rattle.graphql_core.proofs.format.print.block.has_whole_lines.Goals as goal

pub returns-then-not-is_whole_line : goal.returns-then-not-is_whole_line
returns-then-not-is_whole_line c =
    let first : is_whole c.split_line.result.0.now ≡ false = sym c.is_whole_line.ensures ∙ c.if-not-is_whole_line.true in
    sym (first_not_whole (lines_of c.lines.rest.now) _ c.split_line.result.1 c.split_line.ensures.lines first) ∙ c.lines.invariant.whole
    ∙ all_whole (lines_of c.args.text.now)

pub returns-in-None : goal.returns-in-None
returns-in-None c =
    let last : is_whole c.split_line.result.0.now ≡ true = sym c.is_whole_line.ensures ∙ c.if-not-is_whole_line.false in
    sym (last_whole (lines_of c.lines.rest.now) _ (rw c.in-None.is at c.split_line.ensures.lines) last) ∙ c.lines.invariant.whole
    ∙ all_whole (lines_of c.args.text.now)
