use Rattle.std.specs.Cmp.Lexicographic.{same_text}
use Rattle.std.proofs.Common.{sym, ◌∙◌}
use Rattle.graphql_core.specs.values.Leaves.{without_ends}
use Rattle.graphql_fmt.proofs.Elements.{block_quotes}
use Rattle.graphql_fmt.proofs.pieces.raw.have_same_value.Goals as goal

pub unquote_block_string-requires : goal.unquote_block_string-requires
unquote_block_string-requires c = (without_ends 3 c.args.first.now, block_quotes _ c.requires.first)

pub unquote_block_string-requires-2 : goal.unquote_block_string-requires-2
unquote_block_string-requires-2 c = (without_ends 3 c.args.second.now, block_quotes _ c.requires.second)

pub returns : goal.returns
returns c is_same =
    let first = c.in_ok-first.ensures (without_ends 3 c.args.first.now) (block_quotes _ c.requires.first) in
    let second = c.in_ok-second.ensures (without_ends 3 c.args.second.now) (block_quotes _ c.requires.second) in
    sym first ∙ same_text _ _ (sym is_same ∙ c.eq.ensures) ∙ second
