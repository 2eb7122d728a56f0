use Rattle.std.proofs.Common.{Option, Some, Ok, sym, subst, ◌∙◌, arith}
use Rattle.graphql_core.proofs.{as_error}
use Rattle.graphql_standard.specs.Checking.{ChecksNext, ChecksStandard}
use Rattle.graphql_standard.specs.declared.error.CheckError.TheVariants.{OutOfMemory}
use Rattle.graphql_standard.specs.declared.tokenizer.element.Element.{Element}
use Rattle.graphql_standard.proofs.FirstErrors.{rejects}
use Rattle.graphql_fmt.proofs.Checked.{some_element, one_more, more_spaces, all_read, all_accepted, none_is}
use Rattle.graphql_fmt.proofs.pieces.source.checked_pieces.Goals as goal

pub returns-in_err-checker-clause-checks : goal.returns-in_err-checker-clause-checks
returns-in_err-checker-clause-checks c =
    let e = c.in_err-checker.field-0.0 in
    subst (ChecksStandard c.args.limit c.args.source.now) (as_error c.from_residual.result e c.from_residual.ensures.1)
    (rejects c.args.limit c.args.source.now e c.in_err-checker.ensures.checked (λ long. let past = c.in_err-checker.ensures.too_long long in cc))

pub returns-in_err-element-clause-checks : goal.returns-in_err-element-clause-checks
returns-in_err-element-clause-checks c =
    let e = c.in_err-element.field-0.0 in
    let (ps, h, is) = c.elements.invariant.checked in
    subst (ChecksStandard c.args.limit c.args.source.now) (as_error c.from_residual-in_err-element.result e c.from_residual-in_err-element.ensures.1)
    (rejects c.args.limit c.args.source.now e (c.in_err-element.ensures.next c.args.limit c.args.source.now ps h)
    (λ long. absurd (omega (arith, long, h.short))))

pub push_element-requires : goal.push_element-requires
push_element-requires c =
    let (ps, h, is) = c.elements.invariant.checked in
    let next = c.in_ok-element.ensures.next c.args.limit c.args.source.now ps h in
    record {
      element = some_element c.args.limit c.args.source.now ps c.in-Some.element _
          (subst (λ (o : Option Element). ChecksNext c.args.limit c.args.source.now ps (Ok o) c.next_element.new.self) c.in-Some.is next);
    }

pub elements-preserved : goal.elements-preserved
elements-preserved c =
    let (ps, h, is) = c.elements.invariant.checked in
    let next = c.in_ok-element.ensures.next c.args.limit c.args.source.now ps h in
    let one =
    one_more c.args.limit c.args.source.now ps c.in-Some.element _ _ _
    (subst (λ (o : Option Element). ChecksNext c.args.limit c.args.source.now ps (Ok o) c.next_element.new.self) c.in-Some.is next) is
    c.in_ok-push_element.ensures.spelled in
    record {
      checked = more_spaces c.args.limit c.args.source.now c.skip_spaces.result _ _ _ one c.skip_spaces.ensures.spaces;
      pieces = c.in_ok-push_element.ensures.pieces c.elements.invariant.pieces;
    }

pub returns-clause-pieces : goal.returns-clause-pieces
returns-clause-pieces c =
    let (ps, h, is) = c.elements.invariant.checked in
    let next = c.in_ok-element.ensures.next c.args.limit c.args.source.now ps h in
    let none = none_is _ c.in_default.not-Some in (
      all_read c.args.limit c.args.source.now ps _ _
          (subst (λ (o : Option Element). ChecksNext c.args.limit c.args.source.now ps (Ok o) c.next_element.new.self) none next) is,
      c.elements.invariant.pieces,
    )

pub returns-clause-checks : goal.returns-clause-checks
returns-clause-checks c =
    let (ps, h, is) = c.elements.invariant.checked in
    let next = c.in_ok-element.ensures.next c.args.limit c.args.source.now ps h in
    let none = none_is _ c.in_default.not-Some in
    all_accepted c.args.limit c.args.source.now ps _ _
    (subst (λ (o : Option Element). ChecksNext c.args.limit c.args.source.now ps (Ok o) c.next_element.new.self) none next)

pub returns-in_err-push_element-clause-checks : goal.returns-in_err-push_element-clause-checks
returns-in_err-push_element-clause-checks c =
    let (ps, h, is) = c.elements.invariant.checked in
    subst (ChecksStandard c.args.limit c.args.source.now)
    (as_error c.from_residual-in_err-push_element.result OutOfMemory c.from_residual-in_err-push_element.ensures.1)
    (rejects c.args.limit c.args.source.now OutOfMemory tt (λ long. absurd (omega (arith, long, h.short))))
