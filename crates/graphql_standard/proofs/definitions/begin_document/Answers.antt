use Rattle.std.proofs.Common.{[]}
use Rattle.graphql_core.specs.{nowhere}
use Rattle.graphql_standard.proofs.Tokens.{read_true}
use Rattle.graphql_standard.proofs.NextDefinitions.{both_read, not_first}
use Rattle.graphql_standard.proofs.definitions.begin_document.Goals as goal

pub returns-then-not-branch : goal.returns-then-not-branch
returns-then-not-branch c =
    let word = c.of.ensures nowhere tt in
    not_first _ _ _ _ _ c.in_ok-advance.was c.if-not-branch.true (c.advance.ensures [] _ c.in_ok-recognizer.ensures word)

pub returns : goal.returns
returns c =
    let word = c.of.ensures nowhere tt in
    let first = read_true [] _ _ _ _ c.in_ok-advance.was c.if-not-branch.false
    (c.advance.ensures [] _ c.in_ok-recognizer.ensures word) in
    both_read _ _ _ _ (c.advance-2.ensures _ _ first.0 (c.of-2.ensures nowhere c.requires))
