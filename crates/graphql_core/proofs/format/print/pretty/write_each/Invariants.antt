use Rattle.std.proofs.Common.{◌≡◌, ◌++◌, ◌+◌, ◌*◌, ◌<◌, ◌^◌, List, ℕ, drop}
use Rattle.graphql_core.specs.{text_of, most}
use Rattle.std.specs.List.{AllByRecursion, flat_map}
use Rattle.graphql_core.proofs.format.print.pretty.write_each.Given as goal

abbrev pub invariant-parts : goal.invariant-parts
invariant-parts g l =
    let left = drop l.part-index l.parts in
    let lines = g.P.Pretty.lines l.style l.margin in
    record {
      bound : l.margin + most (g.P.Pretty.opens l.style) left * l.style.indent < 2 ^ 32;
      wrote : (done : List ℕ) × g.S.Sink.took l.fn.out done l.out × (done ++ text_of (flat_map lines left) ≡ text_of (flat_map lines l.parts));
      well_formed : AllByRecursion g.P.Pretty.well_formed left → AllByRecursion g.P.Pretty.well_formed l.parts;
    }
