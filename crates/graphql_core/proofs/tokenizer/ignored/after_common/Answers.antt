use Rattle.std.proofs.Common.{◌≡◌, ◌∙◌, arith, rules}
use Rattle.graphql_core.specs.declared.tokenizer.piece.Move.TheVariants.{Down}
use Rattle.graphql_core.specs.{is_spacing, is_line_feed, contents, items}
use Rattle.graphql_core.proofs.{skip_contents, gap_contents, spaces_gap, spacing_front, feed_front, first_decided}
use Rattle.graphql_core.proofs.lexical.Tokens.{first_bytes}
use Rattle.graphql_core.proofs.tokenizer.ignored.after_common.Goals as goal

pub common-preserved : goal.common-preserved
common-preserved c =
    let rest = c.common.rest.now in
    let spacing = first_decided is_spacing rest c.first_byte-byte.ensures c.is_spacing.ensures c.if-is_spacing.true in
    record {
      text = search rules;
      left = λ w. rw c.split_at-then-is_spacing.ensures.back (skip_contents rest 1 _ (spacing_front rest spacing) w) ∙ c.common.invariant.left w;
      within = omega arith;
    }

pub common-preserved-then-is_line_feed : goal.common-preserved-then-is_line_feed
common-preserved-then-is_line_feed c =
    let rest = c.common.rest.now in
    let feed = first_decided is_line_feed rest c.first_byte-byte.ensures c.is_line_feed.ensures c.if-is_line_feed.true in
    record {
      text = search rules;
      left = λ w.
          let after = c.split_at.result.1.now in
          let k = c.in_ok-spaces.spaces in
          let past : contents (items w c.split_at-then-is_line_feed.result.1.now) ≡ contents (items w after) = rw c.split_at-then-is_line_feed.ensures.back
          (gap_contents k after (omega (arith, c.in_ok-spaces.ensures.len, spaces_gap after)) w) in
          let down : contents (items w after) ≡ contents (items w rest) = rw c.split_at.ensures.back
          (skip_contents rest 1 Down (feed_front rest feed) w) in
          past ∙ down ∙ c.common.invariant.left w;
      within = omega arith;
    }

pub common-smaller-then-is_line_feed : goal.common-smaller-then-is_line_feed
common-smaller-then-is_line_feed c = omega arith

pub common-smaller : goal.common-smaller
common-smaller c = omega arith

pub split_at-requires : goal.split_at-requires
split_at-requires c = grind (arith, first_bytes)

pub split_at-requires-then-is_spacing : goal.split_at-requires-then-is_spacing
split_at-requires-then-is_spacing c = grind (arith, first_bytes)

pub returns-then-not-can_begin_ignored-clause-first : goal.returns-then-not-can_begin_ignored-clause-first
returns-then-not-can_begin_ignored-clause-first c = grind (arith, first_bytes)
