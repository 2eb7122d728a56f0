use Rattle.std.proofs.Common.{◌≡◌, ◌++◌, ◌+◌, ◌*◌, ◌<◌, ◌^◌, List, ℕ, drop, codes, map}
use denote.Text.{Utf8}
use denote.Shadow.{shadow}
use Rattle.graphql_core.specs.{text_of, AreWellFormedArguments, arguments_view, each_argument, most_levels}
use Rattle.graphql_core.specs.steps.Joined.{led}
use Rattle.graphql_core.proofs.format.print.directives.write_argument_line.Given as goal

abbrev pub invariant-arguments : goal.invariant-arguments
invariant-arguments g l =
    let left = arguments_view g.N.Names.bytes (drop l.argument-index l.arguments) in
    let whole = arguments_view g.N.Names.bytes l.arguments in
    record {
      utf8 : shadow (Utf8 l.before);
      bound : l.margin + most_levels l.style left * l.style.indent < 2 ^ 32;
      wrote : (done : List ℕ) × g.S.Sink.took l.fn.out done l.out
          × (done ++ led l.before (codes ", ") (map text_of (each_argument l.style l.margin left))
          ≡ led (codes "(") (codes ", ") (map text_of (each_argument l.style l.margin whole)));
      well_formed : AreWellFormedArguments left → AreWellFormedArguments whole;
    }
