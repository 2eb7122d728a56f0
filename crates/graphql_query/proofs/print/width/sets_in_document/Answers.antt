use Rattle.std.proofs.Common.{arith}
use Rattle.graphql_core.proofs.{item_here}
use Rattle.graphql_query.specs.{definition_view}
use Rattle.graphql_query.proofs.{sets_alone}
use Rattle.graphql_query.proofs.print.width.sets_in_document.Goals as goal

pub definitions-preserved : goal.definitions-preserved
definitions-preserved g c =
    let l = c.definitions in
    let here = item_here c.deref-definition-items.result.now l.definition-index c.definition-item.result (omega arith) c.definition-item.is in
    let left = rw here at l.invariant in
    let alone = sets_alone (definition_view g.N.Names.bytes c.definition-item.result) in
    let first = rw (c.selection_set_of-set.ensures, ← alone) at c.sets_in.ensures in
    omega (arith, left, first, c.max-most.ensures)
