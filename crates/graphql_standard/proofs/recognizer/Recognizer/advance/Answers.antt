use Rattle.std.proofs.Common.{List, ◌++◌, reverse, take, ap, subst, ◌∙◌}
use Rattle.graphql_standard.specs.steps.Stacks.{stack_of, StopsAt, IsNext}
use Rattle.graphql_standard.specs.declared.symbol.Symbol.{Symbol}
use Rattle.graphql_standard.proofs.Documents.{stopped, read_one}
use Rattle.graphql_standard.proofs.recognizer.Recognizer.advance.Goals as goal

pub returns-in_default : goal.returns-in_default
returns-in_default c = λ ts t at is. (
  at,
  stopped ts t (stack_of c.args.self.now.stack.items) at
      (subst (λ (ss : List Symbol). StopsAt ss c.args.terminal) c.deref.ensures.value c.in_default.ensures t is),
)

pub returns : goal.returns
returns c = λ ts t at is.
    read_one ts t c.args.self.now.stack.items c.push_all.new.stack.items c.in-Some.symbols.now c.args.terminal c.in-Some.kept at
    (subst (λ (ss : List Symbol). IsNext ss c.args.terminal c.in-Some.kept c.in-Some.symbols.now) c.deref.ensures.value c.in-Some.ensures) is
    (c.in_ok-push_all.ensures.items ∙ ap (λ (l : List Symbol). l ++ reverse c.in-Some.symbols.now)
    (c.truncate.ensures.items ∙ ap (take c.in-Some.kept) c.reserve.ensures.items))
