use Rattle.std.proofs.Common.{List, subst, arith, ◌∙◌, slice_index_or}
use Rattle.graphql_standard.specs.Terminals.{terminals}
use Rattle.graphql_standard.specs.declared.terminal.Terminal.TheVariants as terminal
use Rattle.std.proofs.lemmas.List.{length-set}
use Rattle.graphql_standard.specs.steps.Stacks.{AtEnd, Comes}
use Rattle.graphql_standard.specs.declared.symbol.Symbol.{Symbol}
use Rattle.graphql_standard.proofs.Documents.{complete}
use Rattle.graphql_standard.proofs.ExpectedSets.{one_more, is_expected, all_done}
use Rattle.graphql_standard.proofs.recognizer.Recognizer.expected.Goals as goal

pub loop-i-preserved : goal.loop-i-preserved
loop-i-preserved c = (
  length-set c.loop-i.terminals c.loop-i.i c.can_come.result ∙ c.loop-i.invariant.0,
  λ k n. one_more c.loop-i.terminals c.args.self.now.stack.items c.loop-i.i c.can_come.result terminal.Query (omega (arith, c.loop-i-test.true, c.loop-i.invariant.0))
      c.loop-i.invariant.1
      (subst (λ (ss : List Symbol). Comes c.can_come.result ss (slice_index_or terminals c.loop-i.i terminal.Query)) c.deref.ensures.value c.can_come.ensures) k n,
)

pub returns-clause-terminals : goal.returns-clause-terminals
returns-clause-terminals c = λ ts k t at is.
    is_expected ts c.args.self.now.stack.items k t _ at is
    (all_done c.loop-i.terminals c.args.self.now.stack.items c.loop-i.i c.loop-i.invariant.1 (omega (arith, c.loop-i-test.false)) k)

pub returns-clause-end : goal.returns-clause-end
returns-clause-end c = λ ts at.
    complete ts c.args.self.now.stack.items c.can_end.result at
    (subst (λ (ss : List Symbol). AtEnd c.can_end.result ss) c.deref-2.ensures.value c.can_end.ensures)
