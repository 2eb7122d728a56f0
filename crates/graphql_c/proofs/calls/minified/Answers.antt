use Rattle.std.proofs.Common.{◌∙◌, subst}
use Rattle.graphql_query.specs.{IsMinifyErrorOf}
use Rattle.graphql_c.specs.{ran_out}
use Rattle.graphql_c.proofs.{halts, explains_as, rejected_at}
use Rattle.graphql_c.proofs.calls.minified.Goals as goal

pub returns-in_err-text_of : goal.returns-in_err-text_of
returns-in_err-text_of c = halts _ _ _ _ _ (λ e no. absurd no) c.in_err-text_of.ensures c.from_residual.ensures.1

pub returns-in_default : goal.returns-in_default
returns-in_default c = explains_as c.out_of_memory.ensures ran_out

pub returns-in-Err : goal.returns-in-Err
returns-in-Err c =
    let same = c.in-Ok.ensures.ok ∙ c.in_ok-text_of.ensures.0 in
    let bad = subst (λ t. IsMinifyErrorOf t c.in-Err.error) same c.in-Err.ensures.first_error in
    rejected_at _ c.in_ok-text_of.ensures.1 bad c.cause.ensures c.position.ensures c.rejected.ensures
