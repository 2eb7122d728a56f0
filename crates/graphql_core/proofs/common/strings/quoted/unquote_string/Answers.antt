use Rattle.std.specs.Option.{IfNone, IfSome}
use Rattle.std.proofs.Common.{◌≡◌, ◌++◌, List, ℕ, length, get_or, Some, None, string_bytes, sym, ap, subst, ◌∙◌, arith, rules, append_assoc}
use Rattle.std.proofs.lemmas.Str.Pattern.{split_parts}
use Rattle.std.specs.Char.{encode_utf8}
use Rattle.graphql_core.specs.{HasValue, BeginsEscape, BeginsNoEscape}
use Rattle.std.proofs.lemmas.Str.{IsCharBoundary-after_ascii}
use Rattle.graphql_core.proofs.{between, one_value, plain_value, add_escape, past_escape, no_value}
use Rattle.graphql_core.proofs.common.strings.quoted.unquote_string.Goals as goal

pub range-rest-requires-clause-start_boundary : goal.range-rest-requires-clause-start_boundary
range-rest-requires-clause-start_boundary c =
    let (body, e) = c.requires in
    let long = ap length e in
    let first : get_or c.args.text.now 0 0 ≡ 34 = ap (λ t. get_or t 0 0) e in
    λ _. IsCharBoundary-after_ascii c.args.text.now 0 c.utf8.text (omega arith) (omega arith)

pub returns-then-has_no_backslash-clause-value : goal.returns-then-has_no_backslash-clause-value
returns-then-has_no_backslash-clause-value c body q =
    let rest = c.range-rest.result.now in
    let whole = plain_value rest (c.has_no_backslash.ensures c.if-has_no_backslash.true) in
    let is = c.range-rest.ensures.value ∙ between c.args.text.now body q in
    subst (λ b. HasValue b (string_bytes c.in_ok-from_str.field-0)) is (subst (λ v. HasValue rest v) (sym c.in_ok-from_str.ensures.ok) whole)

pub returns-then-has_no_backslash-clause-only : goal.returns-then-has_no_backslash-clause-only
returns-then-has_no_backslash-clause-only c body v q h =
    one_value body v (string_bytes c.in_ok-from_str.field-0) h (returns-then-has_no_backslash-clause-value c body q)

pub returns-in_err-character-clause-bad_escape : goal.returns-in_err-character-clause-bad_escape
returns-in_err-character-clause-bad_escape c body q _ v h =
    let (parts, plain) = split_parts 92 c.escapes.rest.now (Some (c.in-Some.plain, c.in-Some.escaped)) c.in-Some.ensures.cases (omega arith) in
    let none = subst (λ o. IfNone o (BeginsNoEscape c.in-Some.escaped.now)) c.in_err-character.ensures.ok_part c.escape.ensures.none in
    let (w, k) = c.escapes.invariant.back v (subst (λ t. HasValue t v) (sym (between c.args.text.now body q)) h) in
    no_value c.in-Some.plain.now c.in-Some.escaped.now w plain none (subst (λ t. HasValue t w) parts k)

pub escapes-preserved : goal.escapes-preserved
escapes-preserved c =
    let (parts, plain) = split_parts 92 c.escapes.rest.now (Some (c.in-Some.plain, c.in-Some.escaped)) c.in-Some.ensures.cases (omega arith) in
    let begins = subst (λ o. IfSome o (λ r. BeginsEscape c.in-Some.escaped.now r.0 r.1.now)) c.in_ok-character.ensures.ok_part c.escape.ensures.escapes in
    let text = c.args.text.now in
    record {
      text = search rules;
      forth = λ w h.
          let k = add_escape c.in-Some.plain.now c.in-Some.escaped.now c.in_ok-character.after.now w c.in_ok-character.character plain begins h in
          let more : List ℕ = c.in-Some.plain.now ++ (encode_utf8 c.in_ok-character.character ++ w) in
          let whole = c.escapes.invariant.forth more (rw parts k) in
          rw (c.in_ok-push.ensures.bytes, c.in_ok-push_str.ensures.bytes) (simp append_assoc whole);
      back = λ v h.
          let (w, k) = c.escapes.invariant.back v h in
          past_escape c.in-Some.plain.now c.in-Some.escaped.now c.in_ok-character.after.now w c.in_ok-character.character plain begins
          (subst (λ t. HasValue t w) parts k);
    }

pub returns-clause-value : goal.returns-clause-value
returns-clause-value c body q =
    let plain = split_parts 92 c.escapes.rest.now None c.in_default.ensures.cases (omega arith) in
    let text = c.args.text.now in
    let whole = c.escapes.invariant.forth c.escapes.rest.now (plain_value c.escapes.rest.now plain) in
    rw (c.in_ok-push_str-2.ensures.bytes, ← between text body q) whole

pub returns-clause-only : goal.returns-clause-only
returns-clause-only c body v q h =
    one_value body v (string_bytes c.push_str-2.new.self) h (returns-clause-value c body q)
