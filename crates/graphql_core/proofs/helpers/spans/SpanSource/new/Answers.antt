use Rattle.std.proofs.Common.{arith}
use Rattle.graphql_core.proofs.lexical.{has_items}
use Rattle.graphql_core.proofs.helpers.spans.SpanSource.new.Goals as goal

pub invariant_of-result : goal.invariant_of-result
invariant_of-result g c =
    let text = c.args.text.now in
    let marks = (c.in_ok-spans.ensures _ (has_items text)).marks in
    (marks, (rw c.as_slice.ensures.value at c.front_of-front.ensures) text marks, omega arith)
