use Rattle.std.proofs.Common.{Err, subst}
use Rattle.graphql_standard.specs.Checking.{ChecksStandard}
use Rattle.graphql_standard.specs.declared.error.CheckError.{CheckError}
use Rattle.graphql_standard.specs.declared.error.CheckError.TheVariants.{Syntax}
use Rattle.graphql_fmt.specs.{max_open}
use Rattle.graphql_fmt.proofs.Formatting.{by_parsers}
use Rattle.graphql_fmt.proofs.format.document_pieces.Goals as goal

pub returns-in-Err-Syntax-clause-accepts : goal.returns-in-Err-Syntax-clause-accepts
returns-in-Err-Syntax-clause-accepts c =
    let source = c.args.source.now in
    let checks =
    subst (λ (e : CheckError). ChecksStandard max_open source (Err e)) c.in-Err-Syntax.field-0-is c.in-Err-Syntax.ensures.checks in
    by_parsers source (Syntax c.in-Err-Syntax.error) checks c.parsed_pieces.result (λ same. cc) c.parsed_pieces.ensures.parsed
    c.parsed_pieces.ensures.error
