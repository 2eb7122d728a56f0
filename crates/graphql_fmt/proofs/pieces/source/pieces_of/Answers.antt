use Rattle.std.proofs.Common.{arith, rules}
use Rattle.graphql_fmt.proofs.Elements.{come_on, all_come, some_left, nothing_left, something_left}
use Rattle.graphql_fmt.proofs.pieces.source.pieces_of.Goals as goal

pub elements-preserved : goal.elements-preserved
elements-preserved c = record {
  text = search rules;
  come = come_on _ _ _ _ _ _ _ c.elements.invariant.come c.in-Some.ensures.first c.in_ok-push_element.ensures.spelled;
  pieces = c.in_ok-push_element.ensures.pieces c.elements.invariant.pieces;
  within = omega (arith, c.in-Some.ensures.shorter, c.elements.invariant.within);
}

pub returns-then-is_empty : goal.returns-then-is_empty
returns-then-is_empty c = record {
  kept = (
    all_come _ _ _ c.elements.invariant.come (nothing_left _ _ c.is_empty.ensures c.if-is_empty.true) c.in_default.ensures.first,
    c.elements.invariant.pieces,
  );
}

pub returns : goal.returns
returns c = record {
  kept = λ ks has. something_left _ _ c.is_empty.ensures c.if-is_empty.false (some_left _ _ _ c.elements.invariant.come c.in_default.ensures.first ks has);
}
