use Rattle.std.proofs.Common.{subst}
use Rattle.graphql_core.proofs.{as_error, nests_open}
use Rattle.graphql_core.specs.{ParsesStream, split}
use Rattle.graphql_query.specs.{queries}
use Rattle.graphql_query.proofs.{readable, items_printable}
use Rattle.graphql_query.proofs.document.parse_query_from.Goals as goal

pub returns-in_err-parse_from-clause-parses : goal.returns-in_err-parse_from-clause-parses
returns-in_err-parse_from-clause-parses g c =
    subst (ParsesStream queries _ c.args.stream.now c.parse_from.new.stream) (as_error _ _ c.from_residual.ensures.1)
    (c.in_err-parse_from.ensures.parses readable)

pub returns-clause-parses : goal.returns-clause-parses
returns-clause-parses g c = c.in_ok-parse_from.ensures.parses readable

pub returns-clause-printable : goal.returns-clause-printable
returns-clause-printable g c =
    let items = c.args.stream.now.items in
    let (text, are) = c.in_ok-parse_from.ensures.rest in
    items_printable (split items) _ (nests_open items text are c.requires) (returns-clause-parses g c).sound
