use Rattle.graphql_c.proofs.{halts, no_document, some_document}
use Rattle.graphql_c.proofs.calls.schema_of.Goals as goal

pub returns-in_err-text_of : goal.returns-in_err-text_of
returns-in_err-text_of c = halts _ _ _ _ _ (λ e no. absurd no) c.in_err-text_of.ensures c.from_residual.ensures.1

pub returns-in-Ok : goal.returns-in-Ok
returns-in-Ok c = some_document c.in-Ok.ensures.parses c.in_ok-text_of.ensures

pub returns-in-Err : goal.returns-in-Err
returns-in-Err c = no_document c.in-Err.ensures.parses c.in_ok-text_of.ensures c.cause.ensures c.position.ensures c.rejected.ensures
