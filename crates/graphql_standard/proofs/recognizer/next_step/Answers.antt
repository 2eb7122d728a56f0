use Rattle.std.proofs.Common.{◌∷◌, inl, inr}
use Rattle.graphql_standard.proofs.Stacks.{passes, fails, nothing_left, is_next, one_below}
use Rattle.graphql_standard.proofs.recognizer.next_step.Goals as goal

pub returns-in-Take : goal.returns-in-Take
returns-in-Take c =
    is_next c.args.stack.now c.symbols.rest.now c.in-Some.below.now c.symbols.invariant.1.0 c.in-Take.symbols.now
    c.in-Some.symbol.now c.args.terminal c.symbols.invariant.1.1 c.symbols.invariant.0 c.in-Some.ensures.cases.0 c.in-Take.ensures

pub returns-in-Reject : goal.returns-in-Reject
returns-in-Reject c = λ t is ts.
    inl (fails c.args.stack.now c.symbols.rest.now c.in-Some.below.now c.in-Some.symbol.now (t ∷ ts)
    (c.symbols.invariant.0 t is ts) c.in-Some.ensures.cases.0 (λ rest. c.in-Reject.ensures t is rest ts))

pub symbols-preserved : goal.symbols-preserved
symbols-preserved c = (
  λ t is ts.
      passes c.args.stack.now c.symbols.rest.now c.in-Some.below.now c.in-Some.symbol.now (t ∷ ts)
      (c.symbols.invariant.0 t is ts) c.in-Some.ensures.cases.0 (λ rest. c.in-Skip.ensures t is rest ts),
  (
    c.in-Some.symbol.now ∷ c.symbols.invariant.1.0,
    one_below c.args.stack.now c.symbols.rest.now c.in-Some.below.now c.symbols.invariant.1.0 c.in-Some.symbol.now
        c.symbols.invariant.1.1 c.in-Some.ensures.cases.0,
  ),
)

pub returns : goal.returns
returns c = λ t is ts.
    inr (nothing_left c.args.stack.now c.symbols.rest.now (t ∷ ts) (c.symbols.invariant.0 t is ts) c.in_default.ensures.cases)
