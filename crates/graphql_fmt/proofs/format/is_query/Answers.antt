use Rattle.std.proofs.Common.{ap, ◌∙◌}
use Rattle.graphql_core.specs.{ParseFailure}
use Rattle.graphql_query.specs.{queries}
use Rattle.graphql_fmt.proofs.Formatting.{parsed, not_parsed}
use Rattle.graphql_fmt.proofs.format.is_query.Goals as goal

pub returns-in-Ok : goal.returns-in-Ok
returns-in-Ok c = parsed queries c.args.source.now c.in-Ok.ensures.parses

pub returns-in-Err-2 : goal.returns-in-Err-2
returns-in-Err-2 c =
    let other = c.is_out_of_memory.ensures c.if-is_out_of_memory.false in
    not_parsed queries c.args.source.now c.in-Err.ensures.parses
    (λ memory. other (c.cause.ensures ∙ ap (λ (r : ParseFailure). r.cause) memory))
