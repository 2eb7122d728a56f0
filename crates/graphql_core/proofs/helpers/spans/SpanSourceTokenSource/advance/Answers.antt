use Rattle.std.proofs.Common.{arith}
use Rattle.graphql_core.proofs.{one_taken, last_taken}
use Rattle.std.proofs.lemmas.Grind.{common_steps}
use Rattle.graphql_core.proofs.helpers.spans.SpanSourceTokenSource.advance.Goals as goal

pub returns-in-Some : goal.returns-in-Some
returns-in-Some g c =
    let s = c.self.inside in
    let found = rw c.deref.ensures.value at c.in-Some.ensures.lookup in
    rw (← c.self.view_is) (one_taken g.W.Width.number s.text.now s.spans.tokens.items s.taken _ (omega (arith, found.3)))

pub returns-in-None : goal.returns-in-None
returns-in-None g c =
    let s = c.self.inside in
    let none = rw c.deref.ensures.value at c.in-None.ensures in
    rw (← c.self.view_is) (last_taken g.W.Width.number s.text.now s.spans.tokens.items s.taken _ _
    (omega (arith, c.len-self-inside.ensures, s.spans.tokens.ok.0)) (omega (arith, c.len-self-inside.ensures, s.spans.tokens.ok.0, none)))

pub overflow_add-next : goal.overflow_add-next
overflow_add-next g c = omega arith

pub invariant_of-self : goal.invariant_of-self
invariant_of-self g c = grind (arith, common_steps)

pub invariant_of-self-in-None : goal.invariant_of-self-in-None
invariant_of-self-in-None g c = grind (arith, common_steps)
