use Rattle.std.proofs.Common.{◌≡◌, ◌∙◌, List, ℕ, string_bytes, length, sym, ap, subst, arith}
use Rattle.graphql_core.proofs.{one_minified, minified_document, source_document, exit}
use Rattle.graphql_core.specs.{IsMinified, ParseFailure}
use Rattle.graphql_query.specs.{queries, IsDocumentOf, ParsesBackTo, IsMinifyErrorOf, past_bound}
use Rattle.graphql_query.proofs.{by_values, minify_failure, is_minify_error}
use Rattle.graphql_query.proofs.minify.minify_query.Goals as goal

pub returns-then-len-gt-MAX_LENGTH-clause-first_error : goal.returns-then-len-gt-MAX_LENGTH-clause-first_error
returns-then-len-gt-MAX_LENGTH-clause-first_error c =
    let source : List ℕ = string_bytes c.args.source in
    subst (λ (r : ParseFailure). IsMinifyErrorOf source r) (sym (c.from.ensures ∙ c.text_too_long.ensures)) (past_bound (omega arith))

pub returns-in_err-text-clause-complete : goal.returns-in_err-text-clause-complete
returns-in_err-text-clause-complete c text bound is =
    let same : c.deref.result.now ≡ string_bytes c.args.source = c.deref.ensures in
    is_minify_error c.deref.result.now text c.in_err-text.field-0.0 _ c.from_residual.ensures.1 c.in_err-text.ensures.first_error
    (subst (λ (t : List ℕ). IsMinified t text) (sym same) is)

pub returns-in_err-text-clause-first_error : goal.returns-in_err-text-clause-first_error
returns-in_err-text-clause-first_error c =
    let same : c.deref.result.now ≡ string_bytes c.args.source = c.deref.ensures in
    let e = c.in_err-text.field-0.0 in
    let source : List ℕ = string_bytes c.args.source in
    exit _ e (IsMinifyErrorOf source) c.from_residual.ensures.1
    (subst (λ (t : List ℕ). IsMinifyErrorOf t e) same
    (minify_failure c.deref.result.now e (omega (arith, ap length same)) c.in_err-text.ensures.first_error))

pub returns-clause-complete : goal.returns-clause-complete
returns-clause-complete c text bound is =
    let same : c.deref.result.now ≡ string_bytes c.args.source = c.deref.ensures in
    one_minified c.deref.result.now _ text c.in_ok-text.ensures.minified (subst (λ (t : List ℕ). IsMinified t text) (sym same) is)

pub returns-clause-document : goal.returns-clause-document
returns-clause-document c d h =
    let same : c.deref.result.now ≡ string_bytes c.args.source = c.deref.ensures in
    minified_document queries by_values c.deref.result.now _ c.in_ok-text.ensures.minified d (subst (λ (t : List ℕ). IsDocumentOf t d) (sym same) h)

pub returns-clause-no_other : goal.returns-clause-no_other
returns-clause-no_other c d h =
    let same : c.deref.result.now ≡ string_bytes c.args.source = c.deref.ensures in
    subst (λ (t : List ℕ). ParsesBackTo t d) same (source_document queries by_values c.deref.result.now _ c.in_ok-text.ensures.minified d h)
