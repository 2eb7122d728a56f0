use Rattle.std.proofs.Common.{◌-◌, length}
use Rattle.graphql_core.specs.{Where}
use Rattle.graphql_core.proofs.{begins_with_next, items_of_rest}
use Rattle.graphql_core.proofs.tokenizer.tokens.Tokens.rest.Goals as goal

pub returns-clause-begins : goal.returns-clause-begins
returns-clause-begins c =
    let s = c.self.inside in
    let w : Where = record { position = s.position; offset = s.size - length s.rest.now; openers = s.brackets.openers; closers = s.brackets.closers } in
    rw (← c.self.view_is) (begins_with_next w s.rest.now c.self.invariant.5)

pub returns-clause-items : goal.returns-clause-items
returns-clause-items c =
    let s = c.self.inside in
    let w : Where = record { position = s.position; offset = s.size - length s.rest.now; openers = s.brackets.openers; closers = s.brackets.closers } in
    rw (← c.self.view_is) (items_of_rest w s.rest.now c.self.invariant.5 c.self.invariant.6)
