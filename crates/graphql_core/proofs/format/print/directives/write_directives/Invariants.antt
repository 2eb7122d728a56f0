use Rattle.std.proofs.Common.{◌≡◌, ◌++◌, ◌+◌, ◌*◌, ◌<◌, ◌^◌, List, ℕ, drop}
use Rattle.graphql_core.specs.{text_of, AreWellFormedDirectives, directives_view, directives_layout, directives_levels}
use Rattle.graphql_core.proofs.format.print.directives.write_directives.Given as goal

abbrev pub invariant-directives : goal.invariant-directives
invariant-directives g l =
    let left = directives_view g.N.Names.bytes (drop l.directive-index l.directives) in
    let whole = directives_view g.N.Names.bytes l.directives in
    record {
      bound : l.margin + directives_levels l.style left * l.style.indent < 2 ^ 32;
      wrote : (done : List ℕ) × g.S.Sink.took l.fn.out done l.out
          × (done ++ text_of (directives_layout l.style l.margin left) ≡ text_of (directives_layout l.style l.margin whole));
      well_formed : AreWellFormedDirectives left → AreWellFormedDirectives whole;
    }
