use Rattle.graphql_core.proofs.{read_whole, read_stopped, read_rejected, read_left}
use Rattle.graphql_schema.specs.{schemas, rejections}
use Rattle.graphql_schema.proofs.{readable}
use Rattle.graphql_schema.proofs.document.DocumentReadDocument.read.Goals as goal

pub returns-in-Err-Stopped-clause-reads : goal.returns-in-Err-Stopped-clause-reads
returns-in-Err-Stopped-clause-reads g c =
    let e = c.in-Err-Stopped in
    let reads = rw e.field-0-is at e.ensures in
    read_stopped schemas readable _ _ _ e.error _ reads.gives c.fault_of.ensures

pub returns-in-Err-RejectedNode-clause-reads : goal.returns-in-Err-RejectedNode-clause-reads
returns-in-Err-RejectedNode-clause-reads g c =
    let e = c.in-Err-RejectedNode in
    read_rejected schemas readable _ _ _ rejections _ e.node _ (rw e.field-0-is at e.ensures) c.fault.ensures

pub returns-then-is_at_end-clause-reads : goal.returns-then-is_at_end-clause-reads
returns-then-is_at_end-clause-reads g c =
    read_whole schemas readable _ _ _ _ _ c.in-Ok.ensures.gives c.is_at_end.ensures c.if-is_at_end.true

pub returns-else-is_at_end-clause-reads : goal.returns-else-is_at_end-clause-reads
returns-else-is_at_end-clause-reads g c =
    read_left schemas readable _ _ _ _ _ _ c.in-Ok.ensures.gives c.is_at_end.ensures
    c.if-is_at_end.false c.fault-else-is_at_end.ensures

pub returns-then-is_at_end-clause-end : goal.returns-then-is_at_end-clause-end
returns-then-is_at_end-clause-end g c = c.is_at_end.ensures.0 c.if-is_at_end.true
