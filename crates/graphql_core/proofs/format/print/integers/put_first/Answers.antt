use Rattle.std.proofs.Common.{◌≡◌, ◌+◌, ◌-◌, arith}
use Rattle.std.proofs.lemmas.Fmt.{decimal_digit}
use Rattle.std.proofs.lemmas.List.{drop-set}
use Rattle.graphql_core.proofs.{one_long, two_digits, two_long}
use Rattle.graphql_core.proofs.format.print.integers.put_first.Goals as goal

pub put_pair-requires-clause-within : goal.put_pair-requires-clause-within
put_pair-requires-clause-within c = omega (arith, two_long c.args.first c.if-first-ge10.true c.requires.below, c.requires.within)

pub returns-then-first-ge10-clause-digits : goal.returns-then-first-ge10-clause-digits
returns-then-first-ge10-clause-digits c = rw c.put_pair.ensures (two_digits c.args.first _ c.if-first-ge10.true c.requires.below)

pub overflow_sub-digits : goal.overflow_sub-digits
overflow_sub-digits c = omega (arith, one_long c.args.first c.if-first-ge10.false, c.requires.within)

pub overflow_sub-result-2 : goal.overflow_sub-result-2
overflow_sub-result-2 c = omega (arith, one_long c.args.first c.if-first-ge10.false, c.requires.within)

pub returns-clause-digits : goal.returns-clause-digits
returns-clause-digits c =
    let long = one_long c.args.first c.if-first-ge10.false in
    let next : c.args.end - 1 + 1 ≡ c.args.end = omega (arith, long, c.requires.within) in
    rw (drop-set c.args.digits.now (c.args.end - 1) _ (omega (arith, long, c.requires.within)), next, decimal_digit c.args.first c.if-first-ge10.false)
