use Rattle.graphql_c.specs.{ran_out}
use Rattle.graphql_c.proofs.{explains_as, halts, listed}
use Rattle.graphql_c.proofs.sources.checked.Goals as goal

pub returns-in_err-source : goal.returns-in_err-source
returns-in_err-source c = halts _ _ _ _ _ (λ e no. no) c.in_err-source.ensures c.from_residual.ensures.1

pub returns-in_default : goal.returns-in_default
returns-in_default c = explains_as c.out_of_memory.ensures ran_out

pub returns-in-Ok-errors_to_json : goal.returns-in-Ok-errors_to_json
returns-in-Ok-errors_to_json c =
    listed c.args.most c.args.bytes.now c.in_ok-source.source.now _ c.in-Ok.errors.items c.deref.result.now c.first_errors.result.now
    c.in_ok-source.ensures c.in-Ok.ensures c.deref.ensures.value c.first_errors.ensures c.in-Ok-errors_to_json.ensures

pub returns : goal.returns
returns c = explains_as c.out_of_memory-in-Err.ensures ran_out
