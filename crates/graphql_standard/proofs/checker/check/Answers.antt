use Rattle.std.proofs.Common.{subst, arith}
use Rattle.graphql_core.proofs.{as_error}
use Rattle.graphql_standard.specs.Checking.{ChecksStandard}
use Rattle.graphql_standard.proofs.FirstErrors.{rejects, next_checked, next_none}
use Rattle.graphql_standard.proofs.checker.check.Goals as goal

pub returns-in_err-checker : goal.returns-in_err-checker
returns-in_err-checker c =
    let e = c.in_err-checker.field-0.0 in
    subst (ChecksStandard c.args.limit c.args.source.now) (as_error c.from_residual.result e c.from_residual.ensures.1)
    (rejects c.args.limit c.args.source.now e c.in_err-checker.ensures.checked (λ long. let past = c.in_err-checker.ensures.too_long long in cc))

pub returns-in_err-next_element : goal.returns-in_err-next_element
returns-in_err-next_element c =
    let e = c.in_err-next_element.field-0.0 in
    let (ps, h) = c.elements.invariant in
    subst (ChecksStandard c.args.limit c.args.source.now)
    (as_error c.from_residual-in_err-next_element.result e c.from_residual-in_err-next_element.ensures.1)
    (rejects c.args.limit c.args.source.now e (c.in_err-next_element.ensures.next c.args.limit c.args.source.now ps h)
    (λ long. absurd (omega (arith, long, h.short))))

pub elements-preserved : goal.elements-preserved
elements-preserved c =
    let (ps, h) = c.elements.invariant in
    next_checked c.args.limit c.args.source.now ps _ _ (c.in_ok-next_element.ensures.next c.args.limit c.args.source.now ps h)

pub returns : goal.returns
returns c =
    let (ps, h) = c.elements.invariant in
    next_none c.args.limit c.args.source.now ps _ _ (c.in_ok-next_element.ensures.next c.args.limit c.args.source.now ps h)
    c.if-is_some.ensures
