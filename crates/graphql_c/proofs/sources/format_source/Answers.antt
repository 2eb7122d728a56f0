use Rattle.std.proofs.Common.{sym, subst, string_bytes, IsUtf8}
use Rattle.graphql_c.specs.{IsFormattedSource, IsRejectedSource, rejected, ran_out}
use Rattle.graphql_c.proofs.{explains_as, explains_bytes, same_failure, comments_formatted, document_formatted, source_rejected}
use Rattle.graphql_c.proofs.sources.format_source.Goals as goal

pub returns-in_err-source : goal.returns-in_err-source
returns-in_err-source c = same_failure _ _ _ _ (explains_bytes c.in_err-source.ensures) c.from_residual.ensures.1

pub returns-in-Ok-Some : goal.returns-in-Ok-Some
returns-in-Ok-Some c =
    let same = c.in_ok-source.ensures.0 in
    let utf8 = subst IsUtf8 (sym same) c.in_ok-source.ensures.1 in
    let has = rw c.in-Ok-Some.field-0-is at c.in-Ok-Some.ensures.kept in
    let tidy = rw c.in-Ok-Some.field-0-is at c.in-Ok-Some.ensures.tidy in
    subst (λ t. IsFormattedSource t (string_bytes c.in-Ok-Some.output)) same (comments_formatted c.in_ok-source.source.now _ utf8 has tidy)

pub returns-in-Err : goal.returns-in-Err
returns-in-Err c = explains_as c.out_of_memory.ensures ran_out

pub returns-in-Ok : goal.returns-in-Ok
returns-in-Ok c =
    let same = c.in_ok-source.ensures.0 in
    let utf8 = subst IsUtf8 (sym same) c.in_ok-source.ensures.1 in
    let made = c.in-Ok.ensures in
    subst (λ t. IsFormattedSource t (string_bytes c.in-Ok.output)) same
    (document_formatted c.in_ok-source.source.now _ utf8 c.in-Ok.output made.accepts made.kept made.tidy made.same_document)

pub returns-in-OutOfMemory : goal.returns-in-OutOfMemory
returns-in-OutOfMemory c = explains_as c.out_of_memory-in-OutOfMemory.ensures ran_out

pub returns-in_default : goal.returns-in_default
returns-in_default c =
    let same = c.in_ok-source.ensures.0 in
    let e = c.in-Err-format_source.error in
    let tokens = rw c.in-Ok-None.field-0-is at c.in-Ok-None.ensures.kept in
    let why = source_rejected c.in_ok-source.source.now e c.in_default.not-OutOfMemory tokens c.in-Err-format_source.ensures.accepts in
    explains_as c.of_source.ensures (rejected e c.in_ok-source.ensures.1 (subst (λ t. IsRejectedSource t e) same why))
