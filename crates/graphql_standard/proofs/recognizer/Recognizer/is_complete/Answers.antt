use Rattle.std.proofs.Common.{List, subst}
use Rattle.graphql_standard.specs.steps.Stacks.{AtEnd}
use Rattle.graphql_standard.specs.declared.symbol.Symbol.{Symbol}
use Rattle.graphql_standard.proofs.Documents.{complete}
use Rattle.graphql_standard.proofs.recognizer.Recognizer.is_complete.Goals as goal

pub returns : goal.returns
returns c = λ ts at.
    complete ts c.args.self.now.stack.items c.can_end.result at
    (subst (λ (ss : List Symbol). AtEnd c.can_end.result ss) c.deref.ensures.value c.can_end.ensures)
