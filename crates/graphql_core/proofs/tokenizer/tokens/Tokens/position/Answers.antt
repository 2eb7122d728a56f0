use Rattle.std.proofs.Common.{sym, ap, ◌-◌, length}
use Rattle.graphql_core.specs.{Where}
use Rattle.graphql_core.proofs.{next_place_items}
use Rattle.graphql_core.proofs.tokenizer.tokens.Tokens.position.Goals as goal

pub returns : goal.returns
returns c =
    let s = c.self.inside in
    let w : Where = record { position = s.position; offset = s.size - length s.rest.now; openers = s.brackets.openers; closers = s.brackets.closers } in
    rw (← c.self.view_is) (ap (λ (v : Where). v.position) (sym (next_place_items w s.rest.now c.self.invariant.5)))
