use Rattle.std.proofs.Common.{◌≡◌, ◌-◌, ◌^◌, min, max, drop}
use Rattle.graphql_core.specs.{arguments_view, most_levels}
use Rattle.graphql_core.proofs.format.print.levels.levels_in_arguments.Given as goal

abbrev pub invariant-arguments : goal.invariant-arguments
invariant-arguments g l =
    let left = most_levels l.style (arguments_view g.N.Names.bytes (drop l.argument-index l.arguments)) in
    record {
      levels : max l.most (min left (2 ^ 64 - 1)) ≡ min (most_levels l.style (arguments_view g.N.Names.bytes l.arguments)) (2 ^ 64 - 1);
    }
