use Rattle.std.proofs.Common.{◌≡◌, ◌+◌, ◌-◌, length, sym, ◌∙◌, arith, rules}
use Rattle.graphql_core.specs.{front}
use Rattle.graphql_core.proofs.{further_skip, further_spaces, skips_first}
use Rattle.graphql_core.proofs.tokenizer.ignored.skip_elements.Goals as goal

pub skips-preserved : goal.skips-preserved
skips-preserved c = record {
  text = search rules;
  skipped = (
    λ w at.
        let n = c.in-Some.ignored.len in
        let k = c.spaces_of-spaces.result in
        let rest = c.skips.rest.now in
        let passed = length c.args.text.now - length rest in
        let all : length c.args.text.now - length c.split_at-in-Some.result.1.now ≡ passed + n + k = omega arith in
        let first = skips_first (front rest) c.in-Some.ignored (sym c.in-Some.ensures.is) in
        let spaces = further_spaces w c.position_after_move.result (passed + n) c.split_at.result.1.now k (omega arith) in
        rw (all, c.position_after_spaces-place.ensures, c.split_at-in-Some.ensures.back)
        (spaces ∙ rw (c.split_at.ensures.back, c.position_after_move.ensures) (further_skip w c.skips.place passed rest n c.in-Some.ignored.by first)
        ∙ c.skips.invariant.skipped.0 w at),
    omega arith,
    search rules,
    search rules,
  );
}
