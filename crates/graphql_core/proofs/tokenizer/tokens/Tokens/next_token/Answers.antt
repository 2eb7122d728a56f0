use Rattle.std.proofs.Common.{◌≡◌, ◌-◌, ◌<◌, ◌∷◌, [], true, false, length, take, refl, sym, ◌∙◌, ap, arith, eqb-true}
use Rattle.std.proofs.lemmas.Bool.{eqb-false}
use Rattle.graphql_core.specs.{front, Where, Item, is_too_deep, past, past_token}
use Rattle.graphql_core.specs.steps.Front.{AtEnd, Takes, Stops}
use Rattle.graphql_core.proofs.{items_at, last_some, taken_front, still_open, end_front, stops_front, token_then_rest}
use Rattle.graphql_core.proofs.tokenizer.tokens.Tokens.next_token.Goals as goal

pub invariant_of-self : goal.invariant_of-self
invariant_of-self c =
    let s = c.self.inside in
    let w : Where = record { position = s.position; offset = s.size - length s.rest.now; openers = s.brackets.openers; closers = s.brackets.closers } in
    let n = c.in-Some.taken.nesting in
    let after = c.after-self-inside.ensures in
    let deep = sym (c.is_too_deep.ensures w refl refl) ∙ c.if-is_too_deep.false in
    let brackets = still_open n w deep c.self.invariant.6 after.openers after.closers in (
      omega arith,
      omega arith,
      omega arith,
      omega (arith, brackets.0, c.in-Some.ensures.fits.0, c.split_at.ensures.back_len, c.skip_ignored.ensures.skips.1),
      omega (arith, brackets.1, c.in-Some.ensures.fits.0, c.split_at.ensures.back_len, c.skip_ignored.ensures.skips.1),
      c.skip_ignored.ensures.first,
      brackets.2,
    )

pub returns-then-is_empty : goal.returns-then-is_empty
returns-then-is_empty c =
    let s = c.self.inside in
    let w : Where = record { position = s.position; offset = s.size - length s.rest.now; openers = s.brackets.openers; closers = s.brackets.closers } in
    let end = end_front s.rest.now (eqb-true (length s.rest.now) 0 (sym c.is_empty.ensures ∙ c.if-is_empty.true)) in
    rw (← c.self.view_is) (w, items_at w s.rest.now AtEnd end, refl)

pub returns-in_default : goal.returns-in_default
returns-in_default c =
    let s = c.self.inside in
    let w : Where = record { position = s.position; offset = s.size - length s.rest.now; openers = s.brackets.openers; closers = s.brackets.closers } in
    let some : 0 < length s.rest.now = omega (arith, eqb-false (length s.rest.now) 0 (sym c.is_empty.ensures ∙ c.if-is_empty.false)) in
    let stops = stops_front s.rest.now (sym c.in_default.ensures.is) c.self.invariant.5 some in
    rw (← c.self.view_is, c.bad_at.ensures)
    (w, items_at w s.rest.now Stops stops ∙ ap (λ (i : Item). i ∷ []) (last_some w s.rest.now some), refl)

pub returns-then-is_too_deep : goal.returns-then-is_too_deep
returns-then-is_too_deep c =
    let s = c.self.inside in
    let w : Where = record { position = s.position; offset = s.size - length s.rest.now; openers = s.brackets.openers; closers = s.brackets.closers } in
    let t = c.in-Some.taken in
    let e = items_at w s.rest.now (Takes t.len t.kind t.nesting) (taken_front (front s.rest.now) t (sym c.in-Some.ensures.is)) in
    let deep : is_too_deep t.nesting w ≡ true = sym (c.is_too_deep.ensures w refl refl) ∙ c.if-is_too_deep.true in
    rw (← c.self.view_is) (w, rw deep at e, refl)

pub returns : goal.returns
returns c =
    let s = c.self.inside in
    let w : Where = record { position = s.position; offset = s.size - length s.rest.now; openers = s.brackets.openers; closers = s.brackets.closers } in
    let t = c.in-Some.taken in
    let deep : is_too_deep t.nesting w ≡ false = sym (c.is_too_deep.ensures w refl refl) ∙ c.if-is_too_deep.false in
    let end = sym (c.position_after_token-end.ensures.is ∙ ap (λ v. past v s.position) c.split_at.ensures.front) in
    let more = c.skip_ignored.ensures.skips.0 (past_token t.nesting (take t.len s.rest.now) w) end in
    let len = ap length c.split_at.ensures.front in
    rw (← c.self.view_is, c.split_at.ensures.front, c.after-self-inside.ensures.openers, c.after-self-inside.ensures.closers) (
      w,
      token_then_rest w s.rest.now _ _ c.skip_ignored.result.0.now s.size t c.skip_ignored.result.1 c.in-Some.ensures.is deep refl
          c.split_at.ensures.back more (omega arith),
    )

pub is_too_deep-requires : goal.is_too_deep-requires
is_too_deep-requires c = omega arith

pub position_after_token-end-requires-clause-line : goal.position_after_token-end-requires-clause-line
position_after_token-end-requires-clause-line c = omega arith

pub position_after_token-end-requires-clause-column : goal.position_after_token-end-requires-clause-column
position_after_token-end-requires-clause-column c = omega arith

pub after-self-inside-requires-clause-openers : goal.after-self-inside-requires-clause-openers
after-self-inside-requires-clause-openers c = omega arith

pub after-self-inside-requires-clause-closers : goal.after-self-inside-requires-clause-closers
after-self-inside-requires-clause-closers c = omega arith
