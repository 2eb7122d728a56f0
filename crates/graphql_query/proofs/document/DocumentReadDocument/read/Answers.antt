use Rattle.graphql_core.proofs.{read_whole, read_stopped, read_left}
use Rattle.graphql_query.specs.{queries}
use Rattle.graphql_query.proofs.{readable}
use Rattle.graphql_query.proofs.document.DocumentReadDocument.read.Goals as goal

pub returns-in-Err-clause-reads : goal.returns-in-Err-clause-reads
returns-in-Err-clause-reads g c =
    read_stopped queries readable _ _ _ c.in-Err.error _ c.in-Err.ensures c.fault_of.ensures

pub returns-then-is_at_end-clause-reads : goal.returns-then-is_at_end-clause-reads
returns-then-is_at_end-clause-reads g c =
    read_whole queries readable _ _ _ _ _ c.in-Ok.ensures c.is_at_end.ensures c.if-is_at_end.true

pub returns-else-is_at_end-clause-reads : goal.returns-else-is_at_end-clause-reads
returns-else-is_at_end-clause-reads g c =
    read_left queries readable _ _ _ _ _ _ c.in-Ok.ensures c.is_at_end.ensures c.if-is_at_end.false c.fault.ensures

pub returns-then-is_at_end-clause-end : goal.returns-then-is_at_end-clause-end
returns-then-is_at_end-clause-end g c = c.is_at_end.ensures.0 c.if-is_at_end.true
