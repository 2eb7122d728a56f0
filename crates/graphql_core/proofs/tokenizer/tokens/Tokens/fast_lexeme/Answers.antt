use Rattle.std.proofs.Common.{◌≡◌, ◌-◌, false, length, refl, sym, ◌∙◌, arith}
use Rattle.graphql_core.specs.{Where, is_too_deep}
use Rattle.graphql_core.specs.declared.tokenizer.piece.Taken.{Taken}
use Rattle.graphql_core.specs.declared.tokenizer.token.Kind.TheVariants.{Punctuator}
use Rattle.graphql_core.proofs.{still_open, lexeme_then_rest}
use Rattle.graphql_core.proofs.tokenizer.tokens.Tokens.fast_lexeme.Goals as goal

pub returns-then-begins_with_name-clause-item : goal.returns-then-begins_with_name-clause-item
returns-then-begins_with_name-clause-item c =
    let tokenized = c.split_at.ensures in
    rw (← c.self.view_is)
    (lexeme_then_rest _ _ _ _ _ _ _ c.in_ok-len.ensures.is refl tokenized.front tokenized.back c.in_ok-self-inside.ensures.skips.0 refl refl)

pub invariant_of-self-in-Some : goal.invariant_of-self-in-Some
invariant_of-self-in-Some c =
    let s = c.self.inside in
    let w : Where = record { position = s.position; offset = s.size - length s.rest.now; openers = s.brackets.openers; closers = s.brackets.closers } in
    let n = c.in-Some.nesting in
    let after = c.after-self-inside.ensures in
    let deep = sym (c.is_too_deep.ensures w refl refl) ∙ c.if-is_too_deep.false in
    let brackets = still_open n w deep c.self.invariant.6 after.openers after.closers in
    let within = c.in_ok-self-inside-2.ensures.skips.1 in (
      omega arith,
      omega (arith, within, c.split_at-in-Some.ensures.back_len),
      omega (arith, within, c.split_at-in-Some.ensures.back_len),
      omega (arith, brackets.0, c.split_at-in-Some.ensures.back_len, within),
      omega (arith, brackets.1, c.split_at-in-Some.ensures.back_len, within),
      c.in_ok-self-inside-2.ensures.first,
      brackets.2,
    )

pub returns-in-Some-clause-item : goal.returns-in-Some-clause-item
returns-in-Some-clause-item c =
    let s = c.self.inside in
    let w : Where = record { position = s.position; offset = s.size - length s.rest.now; openers = s.brackets.openers; closers = s.brackets.closers } in
    let t : Taken = record { len = 1; kind = Punctuator; nesting = c.in-Some.nesting } in
    let deep : is_too_deep t.nesting w ≡ false = sym (c.is_too_deep.ensures w refl refl) ∙ c.if-is_too_deep.false in
    let tokenized = c.split_at-in-Some.ensures in
    let after = c.after-self-inside.ensures in
    rw (← c.self.view_is) (lexeme_then_rest w _ _ _ _ _ t c.in-Some.ensures.is deep tokenized.front tokenized.back
    c.in_ok-self-inside-2.ensures.skips.0 after.openers after.closers)

pub invariant_of-self-2 : goal.invariant_of-self-2
invariant_of-self-2 c =
    let s = c.self.inside in
    let w : Where = record { position = s.position; offset = s.size - length s.rest.now; openers = s.brackets.openers; closers = s.brackets.closers } in
    let n = c.in_ok-taken.taken.nesting in
    let after = c.after-self-inside-2.ensures in
    let deep = sym (c.is_too_deep-2.ensures w refl refl) ∙ c.if-is_too_deep-2.false in
    let brackets = still_open n w deep c.self.invariant.6 after.openers after.closers in
    let within = c.in_ok-self-inside-3.ensures.skips.1 in (
      omega arith,
      omega (arith, within, c.split_at-2.ensures.back_len),
      omega (arith, within, c.split_at-2.ensures.back_len),
      omega (arith, brackets.0, c.in_ok-taken.ensures.fits.0, c.split_at-2.ensures.back_len, within),
      omega (arith, brackets.1, c.in_ok-taken.ensures.fits.0, c.split_at-2.ensures.back_len, within),
      c.in_ok-self-inside-3.ensures.first,
      brackets.2,
    )

pub returns-clause-item : goal.returns-clause-item
returns-clause-item c =
    let s = c.self.inside in
    let w : Where = record { position = s.position; offset = s.size - length s.rest.now; openers = s.brackets.openers; closers = s.brackets.closers } in
    let t = c.in_ok-taken.taken in
    let deep : is_too_deep t.nesting w ≡ false = sym (c.is_too_deep-2.ensures w refl refl) ∙ c.if-is_too_deep-2.false in
    let tokenized = c.split_at-2.ensures in
    let after = c.after-self-inside-2.ensures in
    rw (← c.self.view_is) (lexeme_then_rest w _ _ _ _ _ t c.in_ok-taken.ensures.is deep tokenized.front tokenized.back
    c.in_ok-self-inside-3.ensures.skips.0 after.openers after.closers)

pub name_in_one_load-requires-clause-long : goal.name_in_one_load-requires-clause-long
name_in_one_load-requires-clause-long c = omega arith

pub name_in_one_load-requires-clause-small : goal.name_in_one_load-requires-clause-small
name_in_one_load-requires-clause-small c = omega arith

pub punctuator_in_one_load-requires-clause-long : goal.punctuator_in_one_load-requires-clause-long
punctuator_in_one_load-requires-clause-long c = omega arith

pub after-self-inside-requires-clause-openers : goal.after-self-inside-requires-clause-openers
after-self-inside-requires-clause-openers c = omega arith

pub after-self-inside-requires-clause-closers : goal.after-self-inside-requires-clause-closers
after-self-inside-requires-clause-closers c = omega arith

pub after-self-inside-requires-2-clause-openers : goal.after-self-inside-requires-2-clause-openers
after-self-inside-requires-2-clause-openers c = omega arith

pub after-self-inside-requires-2-clause-closers : goal.after-self-inside-requires-2-clause-closers
after-self-inside-requires-2-clause-closers c = omega arith

pub is_too_deep-requires : goal.is_too_deep-requires
is_too_deep-requires c = omega arith

pub is_too_deep-requires-2 : goal.is_too_deep-requires-2
is_too_deep-requires-2 c = omega arith
