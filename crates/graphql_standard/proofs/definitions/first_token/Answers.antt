use Rattle.std.proofs.Common.{arith, rules}
use Rattle.graphql_standard.proofs.NextDefinitions.{at_token, first_spelled, more_first, less_first, no_first}
use Rattle.graphql_standard.proofs.definitions.first_token.Goals as goal

pub returns-in-Token : goal.returns-in-Token
returns-in-Token c = (
  c.elements.invariant.more _ _ (at_token _ _ _ _ _ c.in-Some.ensures.first c.in-Token.is),
  first_spelled _ _ _ _ _ c.in-Some.ensures.first c.in-Token.is,
)

pub elements-preserved : goal.elements-preserved
elements-preserved c = record {
  text = search rules;
  short = omega (arith, c.in-Some.ensures.shorter, c.elements.invariant.short);
  more = λ k b h.
      c.elements.invariant.more k b (more_first _ _ _ _ c.in-Some.ensures.first c.in_default-kind.not-Token k b h);
  less = λ k b h.
      less_first _ _ _ _ c.in-Some.ensures.first c.in_default-kind.not-Token k b (c.elements.invariant.less k b h);
}

pub returns : goal.returns
returns c = λ k b h. no_first _ c.in_default.ensures.first k b (c.elements.invariant.less k b h)
