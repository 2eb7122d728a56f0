use Rattle.std.proofs.Common.{◌≡◌, ◌∙◌, ◌+◌, ◌<◌, length, ap, arith, inl, inr}
use Rattle.std.proofs.lemmas.Bool.{cases_Bool}
use Rattle.std.proofs.lemmas.List.{drop_all, length-set}
use Rattle.graphql_query.specs.{in_sets, reach_of, selections_depth}
use Rattle.graphql_query.proofs.{selection_here, most_stored, most_kept}
use Rattle.graphql_query.proofs.print.width.push_nested.Goals as goal

pub overflow_add-next : goal.overflow_add-next
overflow_add-next g c = elim (cases_Bool c.nested_in-is_nested.result.1) [
  | inl has ↦ rw has (omega (arith, c.items.invariant.within.1, c.requires))
  | inr lacks ↦ rw lacks (omega (arith, c.items.invariant.within.1, c.requires))
]

pub items-preserved : goal.items-preserved
items-preserved g c =
    let bytes = g.N.Names.bytes in
    let l = c.items in
    let here = ap (selections_depth in_sets) (selection_here bytes c.args.items.now l.item-index c.item-item.result (omega arith) c.item-item.is) in
    let nested = c.nested_in-is_nested in
    let capacity : l.next < length l.sets = omega (arith, l.invariant.long, l.invariant.within.1, c.requires, c.items-test.true) in
    let long = length-set l.sets l.next (nested.result.0, c.args.around) ∙ l.invariant.long in
    let stored = most_stored (reach_of bytes) l.sets l.next in
    let kept = most_kept (reach_of bytes) l.sets l.next in
    elim (cases_Bool nested.result.1) [
      | inl has ↦ rw has (record {
        long = long;
        within = (omega (arith, l.invariant.within.0), omega (arith, l.invariant.within.1));
        reach = λ k le.
            let more = stored k (nested.result.0, c.args.around) capacity (omega (arith, le, l.invariant.within.0)) in
            rw more (omega (arith, here, l.invariant.reach k le, nested.ensures.some has));
      })
      | inr lacks ↦ rw lacks (record {
        long = long;
        within = (omega (arith, l.invariant.within.0), omega (arith, l.invariant.within.1));
        reach = λ k le.
            let same = kept k (nested.result.0, c.args.around) in
            let stays : l.next + 0 ≡ l.next = omega arith in
            rw (stays, same) (omega (arith, here, l.invariant.reach k le, nested.ensures.none lacks));
      })
    ]

pub returns-clause-reach : goal.returns-clause-reach
returns-clause-reach g c k le =
    let l = c.items in
    let all = rw (drop_all l.item-index c.args.items.now (omega (arith, c.items-test.false))) at (l.invariant.reach k le) in
    omega (arith, all)
