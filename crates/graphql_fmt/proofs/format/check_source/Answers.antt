use Rattle.std.proofs.Common.{List, [], ◌∷◌, ◌++◌, Err, ap, subst, ◌∙◌}
use Rattle.graphql_standard.specs.Checking.{ChecksStandard}
use Rattle.graphql_standard.specs.declared.error.CheckError.{CheckError}
use Rattle.graphql_standard.specs.declared.error.CheckError.TheVariants.{TooLong}
use Rattle.graphql_fmt.specs.{max_open}
use Rattle.graphql_fmt.proofs.SourceErrors.{accepted_as, too_long_as}
use Rattle.graphql_fmt.proofs.format.check_source.Goals as goal

pub returns-in-Ok : goal.returns-in-Ok
returns-in-Ok c = rw c.new.ensures.items (accepted_as c.args.source.now c.in-Ok.field-0 c.in-Ok.ensures)

pub returns-in_ok-push-in-Err-TooLong : goal.returns-in_ok-push-in-Err-TooLong
returns-in_ok-push-in-Err-TooLong c =
    let source = c.args.source.now in
    let checks =
    subst (λ (e : CheckError). ChecksStandard max_open source (Err e)) c.in-Err-TooLong.field-0-is c.in-Err-TooLong.ensures in
    let one = c.in_ok-push-in-Err-TooLong.ensures.items ∙ ap (λ (l : List CheckError). l ++ TooLong ∷ []) c.new-errors.ensures.items in
    rw one (too_long_as source checks)
