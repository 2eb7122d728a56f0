use Rattle.std.proofs.Common.{◌≡◌, ◌-◌, false, length, take, refl, sym, ◌∙◌, ap, arith}
use Rattle.graphql_core.specs.{front, Where, is_too_deep, past, past_token}
use Rattle.graphql_core.specs.declared.tokenizer.piece.Taken.{Taken}
use Rattle.graphql_core.specs.declared.tokenizer.token.Kind.TheVariants.{Name}
use Rattle.graphql_core.specs.declared.tokenizer.piece.Nesting.TheVariants.{Unchanged}
use Rattle.graphql_core.proofs.{still_open, token_then_rest, token_flat, taken_front}
use Rattle.graphql_core.proofs.tokenizer.tokens.Tokens.fast_token.Goals as goal

pub invariant_of-self-2 : goal.invariant_of-self-2
invariant_of-self-2 c =
    let s = c.self.inside in
    let w : Where = record { position = s.position; offset = s.size - length s.rest.now; openers = s.brackets.openers; closers = s.brackets.closers } in
    let t = c.in_ok-taken.taken in
    let deep : is_too_deep t.nesting w ≡ false = sym (c.is_too_deep.ensures w refl refl) ∙ c.if-is_too_deep.false in
    let within = c.skip_ignored.ensures.skips.1 in
    let after = c.after-self-inside.ensures in
    let brackets = still_open t.nesting w deep c.self.invariant.6 after.openers after.closers in (
      omega arith,
      omega arith,
      omega arith,
      omega (arith, brackets.0, c.in_ok-taken.ensures.fits.0, c.split_at-2.ensures.back_len, within),
      omega (arith, brackets.1, c.in_ok-taken.ensures.fits.0, c.split_at-2.ensures.back_len, within),
      c.skip_ignored.ensures.first,
      brackets.2,
    )

pub returns-clause-item : goal.returns-clause-item
returns-clause-item c =
    let s = c.self.inside in
    let w : Where = record { position = s.position; offset = s.size - length s.rest.now; openers = s.brackets.openers; closers = s.brackets.closers } in
    let t = c.in_ok-taken.taken in
    let deep : is_too_deep t.nesting w ≡ false = sym (c.is_too_deep.ensures w refl refl) ∙ c.if-is_too_deep.false in
    let end = sym (c.position_after_flat-end-2.ensures.is ∙ ap (λ v. past v s.position) c.split_at-2.ensures.front) in
    let more = c.skip_ignored.ensures.skips.0 (past_token t.nesting (take t.len s.rest.now) w) end in
    let len = ap length c.split_at-2.ensures.front in
    rw (← c.self.view_is, c.split_at-2.ensures.front, c.after-self-inside.ensures.openers, c.after-self-inside.ensures.closers) (
      w,
      token_then_rest w s.rest.now _ _ c.skip_ignored.result.0.now s.size t c.skip_ignored.result.1 c.in_ok-taken.ensures.is deep refl
          c.split_at-2.ensures.back more (omega (arith, c.skip_ignored.ensures.skips.1)),
    )

pub position_after_flat-end-requires-clause-flat : goal.position_after_flat-end-requires-clause-flat
position_after_flat-end-requires-clause-flat c =
    let name = c.in_ok-len in
    rw c.split_at.ensures.front
    (token_flat c.self.inside.rest.now name.len Name Unchanged
    (taken_front (front c.self.inside.rest.now) (record { len = name.len; kind = Name; nesting = Unchanged }) (sym name.ensures.is)) refl)

pub returns-then-begins_with_name-clause-item : goal.returns-then-begins_with_name-clause-item
returns-then-begins_with_name-clause-item c =
    let s = c.self.inside in
    let w : Where = record { position = s.position; offset = s.size - length s.rest.now; openers = s.brackets.openers; closers = s.brackets.closers } in
    let name = c.in_ok-len in
    let t : Taken = record { len = name.len; kind = Name; nesting = Unchanged } in
    let end = sym (c.position_after_flat-end.ensures.is ∙ ap (λ v. past v s.position) c.split_at.ensures.front) in
    let more = c.skip_from_blanks.ensures.skips.0 (past_token Unchanged (take name.len s.rest.now) w) end in
    let len = ap length c.split_at.ensures.front in
    rw (← c.self.view_is, c.split_at.ensures.front) (
      w,
      token_then_rest w s.rest.now _ _ c.skip_from_blanks.result.0.now s.size t c.skip_from_blanks.result.1 name.ensures.is refl refl
          c.split_at.ensures.back more (omega (arith, c.skip_from_blanks.ensures.skips.1)),
    )

pub name_in_one_load-requires-clause-long : goal.name_in_one_load-requires-clause-long
name_in_one_load-requires-clause-long c = omega arith

pub name_in_one_load-requires-clause-small : goal.name_in_one_load-requires-clause-small
name_in_one_load-requires-clause-small c = omega arith

pub position_after_flat-end-requires-clause-line : goal.position_after_flat-end-requires-clause-line
position_after_flat-end-requires-clause-line c = omega arith

pub position_after_flat-end-requires-clause-column : goal.position_after_flat-end-requires-clause-column
position_after_flat-end-requires-clause-column c = omega arith

pub position_after_flat-end-requires-2-clause-line : goal.position_after_flat-end-requires-2-clause-line
position_after_flat-end-requires-2-clause-line c = omega arith

pub position_after_flat-end-requires-2-clause-column : goal.position_after_flat-end-requires-2-clause-column
position_after_flat-end-requires-2-clause-column c = omega arith

pub after-self-inside-requires-clause-openers : goal.after-self-inside-requires-clause-openers
after-self-inside-requires-clause-openers c = omega arith

pub after-self-inside-requires-clause-closers : goal.after-self-inside-requires-clause-closers
after-self-inside-requires-clause-closers c = omega arith

pub is_too_deep-requires : goal.is_too_deep-requires
is_too_deep-requires c = omega arith
