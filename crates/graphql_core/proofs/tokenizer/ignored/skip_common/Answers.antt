use Rattle.std.proofs.Common.{◌≡◌, ◌+◌, ◌-◌, length, ap, ◌∙◌, arith, rules}
use Rattle.graphql_core.specs.declared.tokenizer.piece.Move.TheVariants.{Down}
use Rattle.graphql_core.specs.{is_spacing, columns_of, is_line_feed}
use Rattle.graphql_core.proofs.{further_skip, further_spaces, further_spacing, feed_front, first_decided}
use Rattle.graphql_core.proofs.lexical.Tokens.{first_bytes}
use Rattle.std.proofs.lemmas.Grind.{common_steps}
use Rattle.graphql_core.proofs.tokenizer.ignored.skip_common.Goals as goal

pub common-preserved : goal.common-preserved
common-preserved c =
    let rest = c.common.rest.now in
    let spacing = first_decided is_spacing rest c.first_byte-byte.ensures c.is_spacing.ensures c.if-is_spacing.true in
    let columns = c.columns_of.ensures.is ∙ ap columns_of c.first_byte-byte.ensures in
    record {
      text = search rules;
      skipped = (
        λ w at.
            let passed = length c.args.text.now - length rest in
            let all : length c.args.text.now - length c.split_at-then-is_spacing.result.1.now ≡ passed + 1 = omega arith in
            rw (all, c.split_at-then-is_spacing.ensures.back, c.position_after_spaces-place-then-is_spacing.ensures)
            (further_spacing w c.common.place passed rest c.columns_of.result spacing columns ∙ c.common.invariant.skipped.0 w at),
        omega arith,
        search rules,
        search rules,
      );
    }

pub returns-in_default-clause-skips : goal.returns-in_default-clause-skips
returns-in_default-clause-skips c =
    let rest = c.common.rest.now in
    let feed = first_decided is_line_feed rest c.first_byte-byte.ensures c.is_line_feed.ensures c.if-is_line_feed.true in
    let passed = length c.args.text.now - length rest in
    let all : length c.args.text.now - length c.split_at.result.1.now ≡ passed + 1 = omega arith in (
      (λ w at. rw (all, c.split_at.ensures.back, c.position_after_line-place.ensures)
          (further_skip w c.common.place passed rest 1 Down (feed_front rest feed) ∙ c.common.invariant.skipped.0 w at)),
      omega arith,
      search rules,
      search rules,
    )

pub common-preserved-then-is_line_feed : goal.common-preserved-then-is_line_feed
common-preserved-then-is_line_feed c =
    let rest = c.common.rest.now in
    let feed = first_decided is_line_feed rest c.first_byte-byte.ensures c.is_line_feed.ensures c.if-is_line_feed.true in
    record {
      text = search rules;
      skipped = (
        λ w at.
            let k = c.in-Some.spaces in
            let after = c.split_at.result.1.now in
            let passed = length c.args.text.now - length rest in
            let all : length c.args.text.now - length c.split_at-then-is_line_feed.result.1.now ≡ passed + 1 + k = omega (arith, c.in-Some.ensures.within) in
            let spaces = further_spaces w c.position_after_line-place.result (passed + 1) after k (omega (arith, c.in-Some.ensures.len)) in
            rw (all, c.position_after_spaces-place.ensures, c.split_at-then-is_line_feed.ensures.back)
            (spaces ∙ rw (c.split_at.ensures.back, c.position_after_line-place.ensures)
            (further_skip w c.common.place passed rest 1 Down (feed_front rest feed)) ∙ c.common.invariant.skipped.0 w at),
        omega arith,
        search rules,
        search rules,
      );
    }

pub common-smaller-then-is_line_feed : goal.common-smaller-then-is_line_feed
common-smaller-then-is_line_feed c = omega arith

pub common-smaller : goal.common-smaller
common-smaller c = omega arith

pub split_at-requires : goal.split_at-requires
split_at-requires c = grind (arith, first_bytes)

pub split_at-requires-then-is_spacing : goal.split_at-requires-then-is_spacing
split_at-requires-then-is_spacing c = grind (arith, first_bytes)

pub returns-then-not-can_begin_ignored-clause-first : goal.returns-then-not-can_begin_ignored-clause-first
returns-then-not-can_begin_ignored-clause-first c = grind (arith, first_bytes)

pub position_after_line-place-requires : goal.position_after_line-place-requires
position_after_line-place-requires c = omega arith

pub position_after_spaces-place-requires : goal.position_after_spaces-place-requires
position_after_spaces-place-requires c = grind (arith, common_steps)

pub position_after_spaces-place-requires-then-is_spacing : goal.position_after_spaces-place-requires-then-is_spacing
position_after_spaces-place-requires-then-is_spacing c = omega arith
