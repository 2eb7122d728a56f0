use Rattle.std.proofs.Common.{◌∷◌, [], Some, None, sym, subst, ◌∙◌, arith, rules}
use Rattle.std.proofs.lemmas.Bool.{false≢true}
use Rattle.std.proofs.lemmas.List.{append-nil}
use Rattle.std.proofs.lemmas.Str.Pattern.{split_parts}
use Rattle.graphql_standard.specs.lexical.Strings.{IsStringBody}
use Rattle.graphql_standard.proofs.lexical.Strings.{plain_then, plain_body, escape_then, past_plain, past_escape, no_escape}
use Rattle.graphql_standard.proofs.tokenizer.string.is_string_body.Goals as goal

pub returns-then-is_plain-clause-valid : goal.returns-then-is_plain-clause-valid
returns-then-is_plain-clause-valid c _ = plain_body c.args.body.now (sym c.is_plain.ensures ∙ c.if-is_plain.true)

pub returns-then-not-is_plain-clause-invalid : goal.returns-then-not-is_plain-clause-invalid
returns-then-not-is_plain-clause-invalid c _ body =
    let (is, none) = split_parts 92 c.escapes.rest.now (Some (c.in-Some.plain, c.in-Some.escaped)) c.in-Some.ensures.cases (omega arith) in
    let (plain, _) = past_plain c.in-Some.plain.now (92 ∷ c.in-Some.escaped.now) none (subst IsStringBody is (c.escapes.invariant.back body)) in
    false≢true (sym c.if-not-is_plain.true ∙ c.is_plain-in-Some.ensures ∙ plain)

pub returns-in-None-clause-invalid : goal.returns-in-None-clause-invalid
returns-in-None-clause-invalid c _ body =
    let (is, none) = split_parts 92 c.escapes.rest.now (Some (c.in-Some.plain, c.in-Some.escaped)) c.in-Some.ensures.cases (omega arith) in
    let (_, rest) = past_plain c.in-Some.plain.now (92 ∷ c.in-Some.escaped.now) none (subst IsStringBody is (c.escapes.invariant.back body)) in
    no_escape c.in-Some.escaped.now c.in-None.ensures.none rest

pub escapes-preserved : goal.escapes-preserved
escapes-preserved c =
    let plain = c.in-Some.plain.now in
    let escaped = c.in-Some.escaped.now in
    let after = c.in-Some-escape.after.now in
    let (is, none) = split_parts 92 c.escapes.rest.now (Some (c.in-Some.plain, c.in-Some.escaped)) c.in-Some.ensures.cases (omega arith) in
    let all = sym c.is_plain-in-Some.ensures ∙ c.if-not-is_plain.false in
    let begins = c.in-Some-escape.ensures.escapes in
    record {
      text = search rules;
      forth = λ h. c.escapes.invariant.forth
          (subst IsStringBody (sym is) (plain_then plain (92 ∷ escaped) all (escape_then escaped after c.in-Some-escape.field-0-0 begins h)));
      back = λ h.
          let (_, rest) = past_plain plain (92 ∷ escaped) none (subst IsStringBody is (c.escapes.invariant.back h)) in
          past_escape escaped after c.in-Some-escape.field-0-0 begins rest;
    }

pub returns-clause-valid : goal.returns-clause-valid
returns-clause-valid c plain = c.escapes.invariant.forth (plain_body c.escapes.rest.now (sym c.is_plain-2.ensures ∙ plain))

pub returns-clause-invalid : goal.returns-clause-invalid
returns-clause-invalid c other body =
    let none = split_parts 92 c.escapes.rest.now None c.in_default.ensures.cases (omega arith) in
    let (plain, _) = past_plain c.escapes.rest.now [] none (subst IsStringBody (sym (append-nil c.escapes.rest.now)) (c.escapes.invariant.back body)) in
    false≢true (sym other ∙ c.is_plain-2.ensures ∙ plain)
