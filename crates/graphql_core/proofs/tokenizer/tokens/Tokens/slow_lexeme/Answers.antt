use Rattle.std.proofs.Common.{◌≡◌, ◌-◌, false, length, refl, sym, ◌∙◌, arith}
use Rattle.graphql_core.specs.{Where, is_too_deep}
use Rattle.graphql_core.proofs.{still_open, skips_contents, lexeme_then_rest}
use Rattle.graphql_core.proofs.tokenizer.tokens.Tokens.slow_lexeme.Goals as goal

pub invariant_of-self : goal.invariant_of-self
invariant_of-self c =
    let s = c.self.inside in
    let w : Where = record { position = s.position; offset = s.size - length s.rest.now; openers = s.brackets.openers; closers = s.brackets.closers } in
    let n = c.in-Some.taken.nesting in
    let after = c.after-self-inside.ensures in
    let deep = sym (c.is_too_deep.ensures w refl refl) ∙ c.if-is_too_deep.false in
    let brackets = still_open n w deep c.self.invariant.6 after.openers after.closers in
    let within = c.skip_ignored.ensures.skips.1 in (
      omega arith,
      omega (arith, within, c.split_at.ensures.back_len),
      omega (arith, within, c.split_at.ensures.back_len),
      omega (arith, brackets.0, c.in-Some.ensures.fits.0, c.split_at.ensures.back_len, within),
      omega (arith, brackets.1, c.in-Some.ensures.fits.0, c.split_at.ensures.back_len, within),
      c.skip_ignored.ensures.first,
      brackets.2,
    )

pub returns : goal.returns
returns c =
    let s = c.self.inside in
    let w : Where = record { position = s.position; offset = s.size - length s.rest.now; openers = s.brackets.openers; closers = s.brackets.closers } in
    let t = c.in-Some.taken in
    let deep : is_too_deep t.nesting w ≡ false = sym (c.is_too_deep.ensures w refl refl) ∙ c.if-is_too_deep.false in
    let tokenized = c.split_at.ensures in
    let after = c.after-self-inside.ensures in
    let left = skips_contents c.split_at.result.1.now s.position c.skip_ignored.result.0.now c.skip_ignored.result.1 c.skip_ignored.ensures.skips in
    rw (← c.self.view_is) (lexeme_then_rest w _ _ _ _ _ t c.in-Some.ensures.is deep tokenized.front tokenized.back left after.openers after.closers)
