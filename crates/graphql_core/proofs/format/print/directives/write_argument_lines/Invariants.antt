use Rattle.std.proofs.Common.{◌≡◌, ◌++◌, ◌+◌, ◌*◌, ◌<◌, ◌^◌, List, ℕ, drop, false, codes}
use Rattle.graphql_core.specs.{text_of, AreWellFormedArguments, arguments_view, parts, each_argument, most_levels}
use Rattle.graphql_core.proofs.format.print.directives.write_argument_lines.Given as goal

abbrev pub invariant-arguments : goal.invariant-arguments
invariant-arguments g l =
    let left = arguments_view g.N.Names.bytes (drop l.argument-index l.arguments) in
    let whole = arguments_view g.N.Names.bytes l.arguments in
    record {
      bound : l.indented + most_levels l.style left * l.style.indent < 2 ^ 32;
      wrote : (done : List ℕ) × g.S.Sink.took l.fn.out done l.out
          × (done ++ text_of (parts l.style l.indented l.is_later (each_argument l.style l.indented left)) ≡ codes "("
          ++ text_of (parts l.style l.indented false (each_argument l.style l.indented whole)));
      well_formed : AreWellFormedArguments left → AreWellFormedArguments whole;
    }
