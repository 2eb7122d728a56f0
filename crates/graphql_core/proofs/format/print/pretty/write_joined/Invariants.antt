use Rattle.std.proofs.Common.{◌≡◌, ◌++◌, ◌+◌, ◌*◌, ◌<◌, ◌^◌, List, ℕ, drop, map}
use Rattle.graphql_core.specs.{text_of, most, joined}
use Rattle.std.specs.List.{AllByRecursion, flat_map}
use Rattle.graphql_core.proofs.format.print.pretty.write_joined.Given as goal

abbrev pub invariant-others : goal.invariant-others
invariant-others g l =
    let left = drop l.part-index l.others in
    record {
      bound : l.margin + most (g.P.Pretty.opens l.style) left * l.style.indent < 2 ^ 32;
      wrote : (done : List ℕ) × g.S.Sink.took l.fn.out done l.out
          × (done ++ flat_map (λ u. l.separator ++ u) (map (λ p. text_of (g.P.Pretty.lines l.style l.margin p)) left)
          ≡ joined l.separator (map (λ p. text_of (g.P.Pretty.lines l.style l.margin p)) l.parts));
      well_formed : AllByRecursion g.P.Pretty.well_formed left → AllByRecursion g.P.Pretty.well_formed l.parts;
    }
