use Rattle.std.proofs.Common.{◌≡◌, ◌-◌, ◌^◌, min, max, drop}
use Rattle.graphql_core.specs.{directives_view, directives_levels}
use Rattle.graphql_core.proofs.format.print.levels.levels_in_directives.Given as goal

abbrev pub invariant-directives : goal.invariant-directives
invariant-directives g l =
    let left = directives_levels l.style (directives_view g.N.Names.bytes (drop l.directive-index l.directives)) in
    record {
      levels : max l.most (min left (2 ^ 64 - 1)) ≡ min (directives_levels l.style (directives_view g.N.Names.bytes l.directives)) (2 ^ 64 - 1);
    }
