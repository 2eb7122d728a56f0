use Rattle.std.proofs.Common.{◌≡◌, ◌-◌, ◌^◌, min, max, drop}
use Rattle.graphql_core.specs.{most}
use Rattle.graphql_core.proofs.format.print.pretty.levels_in_each.Given as goal

abbrev pub invariant-parts : goal.invariant-parts
invariant-parts g l =
    let opens = g.P.Pretty.opens l.style in
    let left = drop l.part-index l.parts in
    record {
      levels : max l.most (min (most opens left) (2 ^ 64 - 1)) ≡ min (most opens l.parts) (2 ^ 64 - 1);
    }
