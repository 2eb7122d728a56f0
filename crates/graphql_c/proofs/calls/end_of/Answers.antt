use Rattle.std.proofs.Common.{drop}
use Rattle.std.proofs.lemmas.Result.{IfErr-at_err}
use Rattle.graphql_core.proofs.{has_none}
use Rattle.graphql_query.specs.{one_definition, IsFirstDefinition}
use Rattle.graphql_c.proofs.{ends_once, out_of_memory_numbers, rest_at, rejected_at}
use Rattle.graphql_c.proofs.calls.end_of.Goals as goal

pub returns-in-Ok-clause-sound : goal.returns-in-Ok-clause-sound
returns-in-Ok-clause-sound c = rest_at c.args.text.now c.in-Ok.first.1.now _ c.in-Ok.ensures.first

pub returns-in-Err-clause-sound : goal.returns-in-Err-clause-sound
returns-in-Err-clause-sound c =
    let consumed = c.consume_definition.ensures in
    let none = has_none IsFirstDefinition one_definition _ c.args.text.now c.consume_definition.result consumed.first_error consumed.complete in
    rejected_at _ c.utf8.text (IfErr-at_err _ c.in-Err.is none) c.cause.ensures c.position.ensures c.rejected.ensures

pub returns-in-Ok-clause-complete : goal.returns-in-Ok-clause-complete
returns-in-Ok-clause-complete c n short at = ends_once c.args.text.now _ n (returns-in-Ok-clause-sound c) at

pub returns-in-Err-clause-complete : goal.returns-in-Err-clause-complete
returns-in-Err-clause-complete c n short (within, d, first) =
    let none = c.in-Err.ensures.complete (d, drop n c.args.text.now) short first in
    out_of_memory_numbers _ none c.cause.ensures c.position.ensures c.rejected.ensures
