use Rattle.graphql_core.specs.{last_at}
use Rattle.graphql_core.proofs.{next_span, fault_here}
use Rattle.graphql_core.proofs.helpers.spans.SpanSourceTokenSource.fault.Goals as goal

pub returns-in-Some : goal.returns-in-Some
returns-in-Some g c =
    let s = c.self.inside in
    let number = g.W.Width.number in
    let found = rw c.deref.ensures.value at c.in-Some.ensures.lookup in
    rw (← c.self.view_is) (fault_here number s.text.now c.in-Some.span.now _ _ (last_at s.spans.end s.spans.bad) c.position_of.result
    c.spelling.result.now c.fault_of_token.result (next_span number s.text.now s.spans.tokens.items s.taken c.in-Some.span.now found.3.0 found.1)
    c.position_of.ensures.line c.position_of.ensures.column c.spelling.ensures c.fault_of_token.ensures)
