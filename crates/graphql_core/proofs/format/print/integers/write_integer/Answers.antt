use Rattle.std.proofs.Common.{◌++◌, ◌∙◌, ap, codes, to_z-of_z}
use Rattle.std.specs.Fmt.{decimal}
use Rattle.graphql_core.proofs.{and_last, minus_first}
use Rattle.graphql_core.proofs.format.print.integers.write_integer.Goals as goal

pub returns : goal.returns
returns g c =
    let value = to_z-of_z c.ranges.value in
    let number = rw value at c.unsigned_abs-2.ensures.value in
    and_last g.S.Sink.took g.met.S.Sink.took_more _ _ _ _ (codes "-") _ _ c.in_ok-push_str.ensures c.write_digits-2.ensures
    (ap (λ n. codes "-" ++ decimal n) number ∙ minus_first c.args.value (rw value at c.if-value-ge0.false))
