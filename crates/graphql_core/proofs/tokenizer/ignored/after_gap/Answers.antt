use Rattle.std.proofs.Common.{◌∙◌, arith}
use Rattle.std.proofs.lemmas.Option.{IfSome_then}
use Rattle.graphql_core.proofs.{gap_boundary, gap_contents}
use Rattle.graphql_core.proofs.tokenizer.ignored.after_gap.Goals as goal

pub split_at-requires : goal.split_at-requires
split_at-requires c = gap_boundary c.args.text.now c.args.gap c.utf8.text c.requires

pub returns-then-shows_item-clause-skips : goal.returns-then-shows_item-clause-skips
returns-then-shows_item-clause-skips c = (λ w. rw c.split_at.ensures.back (gap_contents c.args.gap c.args.text.now c.requires w), omega arith)

pub returns-clause-skips : goal.returns-clause-skips
returns-clause-skips c =
    IfSome_then c.after_common.result c.after_common.ensures.skips
    (λ rest skips. (λ w. skips.0 w ∙ rw c.split_at.ensures.back (gap_contents c.args.gap c.args.text.now c.requires w), omega (arith, skips.1)))
