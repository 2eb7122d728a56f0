use Rattle.graphql_standard.proofs.checker.Checker.error.Goals as goal

pub returns-clause-expected : goal.returns-clause-expected
returns-clause-expected c = λ ts read. record {
  terminals = λ k t is. c.expected.ensures.terminals ts k t read is;
  end = c.expected.ensures.end ts read;
}
