use Rattle.std.proofs.Common.{subst}
use Rattle.graphql_core.specs.{ParsesDocument}
use Rattle.graphql_core.proofs.{as_error}
use Rattle.graphql_query.specs.{queries}
use Rattle.graphql_query.proofs.{readable, earlier_document, printable}
use Rattle.graphql_query.proofs.document.parse_query.Goals as goal

pub returns-in_err-parse-clause-parses : goal.returns-in_err-parse-clause-parses
returns-in_err-parse-clause-parses g c =
    subst (ParsesDocument queries _ c.args.source.now) (as_error _ _ c.from_residual.ensures.1) (c.in_err-parse.ensures readable)

pub returns-in_err-parse-clause-earlier : goal.returns-in_err-parse-clause-earlier
returns-in_err-parse-clause-earlier g c d bound h =
    let (none, is) = earlier_document c.args.source.now d h in
    (none, (returns-in_err-parse-clause-parses g c).complete d bound is)

pub returns-clause-parses : goal.returns-clause-parses
returns-clause-parses g c = c.in_ok-parse.ensures readable

pub returns-clause-earlier : goal.returns-clause-earlier
returns-clause-earlier g c d bound h =
    let (none, is) = earlier_document c.args.source.now d h in
    (none, (returns-clause-parses g c).complete d bound is)

pub returns-clause-printable : goal.returns-clause-printable
returns-clause-printable g c = printable c.args.source.now _ (returns-clause-parses g c).sound
