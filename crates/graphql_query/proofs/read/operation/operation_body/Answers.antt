use Rattle.std.proofs.Common.{refl}
use Rattle.graphql_core.proofs.{past, after, fails, fails_last, whole}
use Rattle.graphql_query.specs.{operation_body_symbol}
use Rattle.graphql_query.proofs.{begun, lifted, stops_lifted, same_operation_body}
use Rattle.graphql_query.proofs.read.operation.operation_body.Goals as goal

pub returns-in_err-directives : goal.returns-in_err-directives
returns-in_err-directives g c =
    let varied = after (after (begun operation_body_symbol) c.in_ok-name.ensures) c.in_ok-variable_definitions.ensures in
    fails _ _ _ _ varied (stops_lifted _ refl _ _ _ c.in_err-directives.ensures) c.from_residual-in_err-directives.ensures.1

pub returns-in_err-selection_set : goal.returns-in_err-selection_set
returns-in_err-selection_set g c =
    let varied = after (after (begun operation_body_symbol) c.in_ok-name.ensures) c.in_ok-variable_definitions.ensures in
    fails_last _ _ _ _ (after varied (lifted refl c.in_ok-directives.ensures)) c.in_err-selection_set.ensures.reads
    c.from_residual-in_err-selection_set.ensures.1

pub returns : goal.returns
returns g c =
    let (n, named, called) = c.in_ok-name.ensures in
    let (v, varied, varies) = c.in_ok-variable_definitions.ensures in
    let (d, directed, directs) = lifted refl c.in_ok-directives.ensures in
    let (s, selected, selects) = c.in_ok-selection_set.ensures.reads in
    whole (past (past (past (begun operation_body_symbol) named) varied) directed) selected
    (same_operation_body called varies directs selects)
