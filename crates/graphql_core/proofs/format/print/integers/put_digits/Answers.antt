use Rattle.std.proofs.Common.{◌∙◌, arith, append-nil}
use Rattle.std.proofs.lemmas.Fmt.{length-decimal-le}
use Rattle.std.proofs.lemmas.List.{drop_all}
use Rattle.std.specs.Fmt.{decimal}
use Rattle.graphql_core.proofs.{last_pair, two_longer}
use Rattle.graphql_core.proofs.format.print.integers.put_digits.Goals as goal

pub pairs-init : goal.pairs-init
pairs-init c =
    let small = c.ranges.number.fits in (
      small,
      length-decimal-le 20 c.args.number (omega arith) (omega (arith, small)) small,
      omega arith,
      rw (drop_all 20 c.args.digits.now (omega (arith, c.told-digits))) (append-nil (decimal c.args.number)),
    )

pub put_pair-requires-clause-within : goal.put_pair-requires-clause-within
put_pair-requires-clause-within c =
    let (small, long, within, same) = c.pairs.invariant in
    omega (arith, two_longer c.pairs.rest c.pairs-test.true small, long, within)

pub overflow_sub-end : goal.overflow_sub-end
overflow_sub-end c =
    let (small, long, within, same) = c.pairs.invariant in
    omega (arith, two_longer c.pairs.rest c.pairs-test.true small, long)

pub pairs-preserved : goal.pairs-preserved
pairs-preserved c =
    let (small, long, within, same) = c.pairs.invariant in
    let longer = two_longer c.pairs.rest c.pairs-test.true small in (
      omega (arith, small),
      omega (arith, longer, long),
      omega (arith, within),
      rw c.put_pair.ensures (last_pair c.pairs.rest _ c.pairs-test.true small) ∙ same,
    )
