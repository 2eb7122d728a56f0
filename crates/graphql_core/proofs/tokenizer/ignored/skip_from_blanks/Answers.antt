use Rattle.std.proofs.Common.{◌≡◌, ◌+◌, ◌-◌, length, refl, ◌∙◌, arith, rules, add-zero, add_assoc}
use Rattle.graphql_core.specs.{Where, further, items}
use Rattle.graphql_core.proofs.{further_blanks, gap_boundary, blanks_gap}
use Rattle.graphql_core.proofs.tokenizer.ignored.skip_from_blanks.Goals as goal

pub split_at-requires : goal.split_at-requires
split_at-requires c = gap_boundary c.args.text.now c.args.blanks c.utf8.text (omega (arith, c.requires.blanks, blanks_gap c.args.text.now))

pub returns-clause-skips : goal.returns-clause-skips
returns-clause-skips c = (
  λ w at.
      let text = c.args.text.now in
      let after = c.split_at.result.1.now in
      let rest = c.skip_ignored.result.0.now in
      let n = c.args.blanks in
      let there : Where = further c.position_after_spaces.result n w in
      let left = length after - length rest in
      let all : length text - length rest ≡ n + left = omega arith in
      let start : items (further c.args.at 0 w) text ≡ items w text = rw (← at, add-zero w.offset) refl in
      let none : 0 + n ≡ n = omega arith in
      let blanks : items there after ≡ items (further c.args.at 0 w) text = rw (c.split_at.ensures.back, c.position_after_spaces.ensures)
      (rw none at (further_blanks w c.args.at 0 text n c.requires.blanks)) in
      rw (all, ← add_assoc w.offset n left) (c.skip_ignored.ensures.skips.0 there refl ∙ blanks ∙ start),
  omega arith,
  search rules,
  search rules,
)
