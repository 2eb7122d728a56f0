use Rattle.std.proofs.Common.{refl}
use Rattle.graphql_core.specs.{nowhere}
use Rattle.graphql_standard.proofs.Checking.{one_read, is_full}
use Rattle.graphql_standard.proofs.Tokens.{read_true, read_false}
use Rattle.graphql_standard.proofs.checker.Checker.read.Goals as goal

pub returns-then-not-branch-clause-token : goal.returns-then-not-branch-clause-token
returns-then-not-branch-clause-token c = λ limit ts h is.
    let token = c.of-terminal.ensures nowhere is in
    let (read, ends) = read_false ts _ _ _ _ c.in_ok-advance.was c.if-not-branch.true (c.advance.ensures ts _ h.read token) in
    let error = c.error.ensures in
    (error.place, error.expected ts read, error.len, (c.of-terminal.result, error.found, token), ends)

pub returns-in-None-clause-token : goal.returns-in-None-clause-token
returns-in-None-clause-token c = λ limit ts h is.
    let token = c.of-terminal.ensures nowhere is in
    let (read, begins) = read_true ts _ _ _ _ c.in_ok-advance.was c.if-not-branch.false (c.advance.ensures ts _ h.read token) in
    let (opens, full) = c.in-None.ensures in
    (c.before-in-None.ensures, begins, opens, is_full limit ts c.args.self.now h full)

pub returns-clause-token : goal.returns-clause-token
returns-clause-token c = λ limit ts h is.
    let token = c.of-terminal.ensures nowhere is in
    let (read, begins) = read_true ts _ _ _ _ c.in_ok-advance.was c.if-not-branch.false (c.advance.ensures ts _ h.read token) in
    one_read limit ts _ c.args.self.now _ h read begins refl (c.in-Some.ensures)
