use Rattle.std.proofs.Common.{rules}
use Rattle.graphql_standard.specs.AllErrors.{here}
use Rattle.graphql_standard.proofs.NextDefinitions.{next_found, next_element, next_rest, none_left, reaches_more}
use Rattle.graphql_standard.proofs.NextDefinitions.{ends_more, one_element, one_line, not_empty, empty}
use Rattle.graphql_standard.proofs.definitions.next_definition.Goals as goal

pub elements-init : goal.elements-init
elements-init c = record {
  text = search rules;
  ends = c.requires.ends;
  reached = here;
  left = λ other is. is.reached;
}

pub returns-then-branch : goal.returns-then-branch
returns-then-branch c =
    next_found c.args.source.now c.args.part.now c.args.offset _ _ c.elements.invariant.reached c.in_ok-is_definition.ensures
    c.if-branch.true c.elements.invariant.left

pub elements-preserved-in-Some : goal.elements-preserved-in-Some
elements-preserved-in-Some c =
    let step = one_element _ _ _ _ c.in-Some.ensures.first in record {
      text = search rules;
      ends = ends_more c.args.source.now _ _ c.elements.invariant.ends step;
      reached = reaches_more _ _ _ c.elements.invariant.reached step;
      left = next_element c.args.source.now c.args.part.now c.args.offset _ _ _ _ _ c.in_ok-is_definition.ensures c.if-branch.false
          c.in-Some.ensures.first c.elements.invariant.left;
    }

pub elements-preserved : goal.elements-preserved
elements-preserved c =
    let some = not_empty _ _ c.is_empty.ensures c.elements-test.true in
    let step = one_line _ _ some c.in-None.ensures.first c.next_line-end.ensures in record {
      text = search rules;
      ends = ends_more c.args.source.now _ _ c.elements.invariant.ends step;
      reached = reaches_more _ _ _ c.elements.invariant.reached step;
      left = rw c.next_line-end.ensures
          (next_rest c.args.source.now c.args.part.now c.args.offset _ _ c.in_ok-is_definition.ensures c.if-branch.false
          c.in-None.ensures.first c.elements.invariant.left);
    }

pub returns : goal.returns
returns c =
    none_left c.args.source.now c.args.part.now c.args.offset _ (empty _ _ c.is_empty.ensures c.elements-test.false)
    c.elements.invariant.left
