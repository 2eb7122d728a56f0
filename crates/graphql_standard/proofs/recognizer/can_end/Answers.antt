use Rattle.std.proofs.Common.{[], true, false}
use Rattle.graphql_standard.proofs.Following.{ends_as}
use Rattle.graphql_standard.proofs.Stacks.{passes, fails, nothing_left}
use Rattle.graphql_standard.proofs.recognizer.can_end.Goals as goal

pub returns-then-not-row_of : goal.returns-then-not-row_of
returns-then-not-row_of c =
    fails c.args.stack.now c.symbols.rest.now c.in-Some.below.now c.in-Some.symbol.now [] c.symbols.invariant c.in-Some.ensures.cases.0
    (ends_as c.in-Some.symbol.now c.row_of.result c.row_of.ensures false c.if-not-row_of.true)

pub symbols-preserved : goal.symbols-preserved
symbols-preserved c =
    passes c.args.stack.now c.symbols.rest.now c.in-Some.below.now c.in-Some.symbol.now [] c.symbols.invariant c.in-Some.ensures.cases.0
    (ends_as c.in-Some.symbol.now c.row_of.result c.row_of.ensures true c.if-not-row_of.false)

pub returns : goal.returns
returns c = nothing_left c.args.stack.now c.symbols.rest.now [] c.symbols.invariant c.in_default.ensures.cases
