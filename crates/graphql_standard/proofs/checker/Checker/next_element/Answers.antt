use Rattle.std.proofs.Common.{◌≡◌, [], ◌++◌, refl, ◌∙◌, subst, arith}
use Rattle.graphql_core.proofs.{as_error}
use Rattle.graphql_standard.specs.Checking.{ChecksNext, HasCheckedTokens, token_and, tokens_of}
use Rattle.graphql_standard.proofs.Checking.{has_front, rest_short, openers_short, closers_short, same_tokens, element_read}
use Rattle.graphql_standard.proofs.FirstErrors.{token_read, ignored_read, token_error}
use Rattle.graphql_standard.proofs.checker.Checker.next_element.Goals as goal
use Rattle.graphql_standard.proofs.checker.Checker.next_element.Goals.{in-Token+in_ok-read, in_default-kind}

pub first_element-requires : goal.first_element-requires
first_element-requires c = rest_short c.args.self.now c.requires

pub end-requires : goal.end-requires
end-requires c = has_front c.args.self.now c.requires

pub error-requires : goal.error-requires
error-requires c = has_front c.args.self.now c.requires

pub read-requires-clause-front : goal.read-requires-clause-front
read-requires-clause-front c = has_front c.args.self.now c.requires

pub read-requires-clause-openers : goal.read-requires-clause-openers
read-requires-clause-openers c = let short = openers_short c.args.self.now c.requires in omega (arith, short)

pub read-requires-clause-closers : goal.read-requires-clause-closers
read-requires-clause-closers c = let short = closers_short c.args.self.now c.requires in omega (arith, short)

pub returns-in_err-read-clause-next : goal.returns-in_err-read-clause-next
returns-in_err-read-clause-next c = λ limit source ps h.
    let e = c.in_err-read.field-0.0 in
    let (m, is, el, kind) = c.in-Some.ensures.standard c.if-not-element.false in
    let error = token_error limit source ps c.in-Token.kind _ _ c.args.self.now c.read.new.self _ e h (m, is, el, kind ∙ c.in-Token.is) c.read.ensures.same
    c.in_err-read.was c.read.ensures.token in
    subst (λ r. ChecksNext limit source ps r c.read.new.self) (as_error c.from_residual-in_err-read.result e c.from_residual-in_err-read.ensures.1) error

pub returns-clause-next : goal.returns-clause-next
returns-clause-next c = λ limit source ps h.
    let (m, is, el, kind) = c.in-Some.ensures.standard c.if-not-element.false in
    let read : HasCheckedTokens limit (tokens_of ps ++ token_and m c.in-Some.element.text.now []) c.match-element.self
    × (c.match-element.self.source.now ≡ c.args.self.now.source.now) = elim c.match-element.branch [
      | in-Token+in_ok-read w ↦
          let token = kind ∙ w.in-Token.is in (
            rw w.self-is (token_read limit (tokens_of ps) w.in-Token.kind _ _ m c.args.self.now _ _ token el h.tokens w.in_ok-read.was w.read.ensures.token),
            rw w.self-is w.read.ensures.same.0,
          )
      | in_default-kind w ↦ (rw w.self-is (ignored_read limit (tokens_of ps) c.args.self.now _ m _ kind w.in_default-kind.not-Token h.tokens), rw w.self-is refl)
    ] in
    (m, kind, refl, element_read limit source ps c.args.self.now _ _ m h is el read.1 (same_tokens limit _ _ c.match-element.self _ refl refl refl refl read.0))
