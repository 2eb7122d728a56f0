use Rattle.std.proofs.Common.{◌∙◌, Some, None, sym, ap, arith, rules, length}
use Rattle.std.proofs.lemmas.Str.Pattern.{strip_prefix_char}
use Rattle.graphql_core.specs.{is_flat, is_no_line_feed}
use Rattle.graphql_core.proofs.{run_passes, past_part, past_feed, past_nothing, line_ends}
use Rattle.graphql_core.proofs.tokenizer.place.position_after_characters.Goals as goal

pub position_after_flat-place-requires-clause-flat : goal.position_after_flat-place-requires-clause-flat
position_after_flat-place-requires-clause-flat c =
    rw c.split_at.ensures.front (run_passes is_flat c.lines.rest.now c.flat_of.result c.flat_of.ensures.len)

pub lines-preserved-in-Some : goal.lines-preserved-in-Some
lines-preserved-in-Some c =
    let flat = past_part _ c.flat_of.result _ _ c.split_at.ensures.front c.split_at.ensures.back c.lines.invariant.utf8 c.flat_of.ensures.cuts
    c.position_after_flat-place.ensures.is in
    let feed = strip_prefix_char 10 c.split_at.result.1.now (Some c.in-Some.lines) c.in-Some.ensures.cases (omega arith) in
    let long = ap length feed in
    rw c.position_after_line-place.ensures (record {
      past_all = sym (past_feed _ _ c.position_after_flat-place.result (search rules) feed) ∙ sym flat ∙ c.lines.invariant.past_all;
      line = omega (arith, long);
      column = omega (arith, long);
      utf8 = search rules;
    })

pub position_in_line-place-requires-clause-line : goal.position_in_line-place-requires-clause-line
position_in_line-place-requires-clause-line c =
    rw c.split_at-else-is_empty.ensures.front (run_passes is_no_line_feed c.split_at.result.1.now c.line_len.result c.line_len.ensures.len)

pub returns-in_default-strip_prefix-clause-is : goal.returns-in_default-strip_prefix-clause-is
returns-in_default-strip_prefix-clause-is c =
    let flat = past_part _ c.flat_of.result _ _ c.split_at.ensures.front c.split_at.ensures.back c.lines.invariant.utf8 c.flat_of.ensures.cuts
    c.position_after_flat-place.ensures.is in
    let back = c.split_at-else-is_empty.ensures.back in
    let part = past_part _ c.line_len.result _ _ c.split_at-else-is_empty.ensures.front back (search rules) c.line_len.ensures.cuts
    c.position_in_line-place.ensures.is in
    let none = strip_prefix_char 10 c.split_at-else-is_empty.result.1.now None c.in_default-strip_prefix.ensures.cases (omega arith) in
    let empty = ap length back ∙ line_ends c.split_at.result.1.now c.line_len.result c.line_len.ensures.len (λ r e. none r (back ∙ e)) in
    sym (past_nothing c.split_at-else-is_empty.result.1.now c.position_in_line-place.result empty) ∙ sym part ∙ sym flat ∙ c.lines.invariant.past_all

pub lines-preserved : goal.lines-preserved
lines-preserved c =
    let flat = past_part _ c.flat_of.result _ _ c.split_at.ensures.front c.split_at.ensures.back c.lines.invariant.utf8 c.flat_of.ensures.cuts
    c.position_after_flat-place.ensures.is in
    let part = past_part _ c.line_len.result _ _ c.split_at-else-is_empty.ensures.front c.split_at-else-is_empty.ensures.back (search rules)
    c.line_len.ensures.cuts c.position_in_line-place.ensures.is in
    let some = c.in-Some-strip_prefix in
    let feed = strip_prefix_char 10 c.split_at-else-is_empty.result.1.now (Some some.lines) some.ensures.cases (omega arith) in
    let long = ap length feed in
    rw c.position_after_line-place-else-is_empty.ensures (record {
      past_all = sym (past_feed _ _ c.position_in_line-place.result (search rules) feed) ∙ sym part ∙ sym flat ∙ c.lines.invariant.past_all;
      line = omega (arith, long, c.position_in_line-place.ensures.line);
      column = omega (arith, long);
      utf8 = search rules;
    })

pub position_after_flat-place-requires-clause-line : goal.position_after_flat-place-requires-clause-line
position_after_flat-place-requires-clause-line c = omega arith

pub position_after_flat-place-requires-clause-column : goal.position_after_flat-place-requires-clause-column
position_after_flat-place-requires-clause-column c = omega arith

pub position_after_line-place-requires : goal.position_after_line-place-requires
position_after_line-place-requires c = omega arith

pub lines-smaller-in-Some : goal.lines-smaller-in-Some
lines-smaller-in-Some c =
    let feed = strip_prefix_char 10 c.split_at.result.1.now (Some c.in-Some.lines) c.in-Some.ensures.cases (omega arith) in
    omega (arith, ap length feed)

pub returns-then-is_empty-clause-line : goal.returns-then-is_empty-clause-line
returns-then-is_empty-clause-line c = omega arith

pub returns-then-is_empty-clause-column : goal.returns-then-is_empty-clause-column
returns-then-is_empty-clause-column c = omega arith

pub position_in_line-place-requires-clause-column : goal.position_in_line-place-requires-clause-column
position_in_line-place-requires-clause-column c = omega arith

pub returns-in_default-strip_prefix-clause-line : goal.returns-in_default-strip_prefix-clause-line
returns-in_default-strip_prefix-clause-line c = omega arith

pub returns-in_default-strip_prefix-clause-column : goal.returns-in_default-strip_prefix-clause-column
returns-in_default-strip_prefix-clause-column c = omega arith

pub position_after_line-place-requires-else-is_empty : goal.position_after_line-place-requires-else-is_empty
position_after_line-place-requires-else-is_empty c = omega arith
