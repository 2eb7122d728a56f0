use Rattle.graphql_query.proofs.{out_of_memory_only, least_error}
use Rattle.graphql_query.proofs.consume.first_definition.Goals as goal

pub returns-in-Err-clause-complete : goal.returns-in-Err-clause-complete
returns-in-Err-clause-complete g c x others h =
    out_of_memory_only (g.S.TokenSource.items c.args.source.now) (g.S.TokenSource.items c.definition.new.source)
    c.in-Err.error _ x others c.in-Err.ensures c.fault_of.ensures h

pub returns-in-Err-clause-first_error : goal.returns-in-Err-clause-first_error
returns-in-Err-clause-first_error g c =
    least_error _ (g.S.TokenSource.items c.definition.new.source) c.in-Err.error _ c.in-Err.ensures c.fault_of.ensures
