use Rattle.std.proofs.Common.{ℕ, List, refl, sym, ap₂, subst, ◌∙◌}
use Rattle.graphql_core.specs.{keyword}
use Rattle.graphql_core.proofs.{TakesNone, here, took, past, fails_last, lacks, whole}
use Rattle.graphql_query.specs.{operation, with_body, kind_of}
use Rattle.graphql_query.proofs.read.operation.keyword_operation.Goals as goal

pub returns-in_err-position : goal.returns-in_err-position
returns-in_err-position g c =
    let old = g.S.TokenSource.items c.args.source.now in
    let new = g.S.TokenSource.items c.expect_keyword.new.source in
    lacks _ _ _ _ _ here
    (subst (λ (w : List ℕ). TakesNone (keyword w) old new c.in_err-position.field-0.0) c.word.ensures c.in_err-position.ensures) c.from_residual.ensures.1

pub returns-in_err-body : goal.returns-in_err-body
returns-in_err-body g c =
    let begins = rw c.word.ensures at c.in_ok-position.ensures.1 in
    fails_last _ _ _ _ (past here (took begins refl)) c.in_err-body.ensures c.from_residual-in_err-body.ensures.1

pub returns : goal.returns
returns g c =
    let begins = rw c.word.ensures at c.in_ok-position.ensures.1 in
    let (x, read, view) = c.in_ok-body.ensures in
    whole (past here (took begins refl)) read
    (c.into_operation.ensures ∙ ap₂ (λ p b. operation (with_body (kind_of c.args.keyword) p b)) (sym c.in_ok-position.ensures.2) view)
