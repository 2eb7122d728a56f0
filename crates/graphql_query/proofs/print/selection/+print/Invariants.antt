use Rattle.std.proofs.Common.{◌≡◌, ◌++◌, ◌+◌, ◌*◌, ◌<◌, ◌^◌, List, ℕ, drop}
use Rattle.graphql_core.specs.{text_of}
use Rattle.graphql_query.specs.{selections_view, AreWellFormedSelections, selections_layout, selections_levels}
use Rattle.graphql_query.proofs.print.selection.+print.Given as goal

abbrev pub invariant-write_selections-items : goal.invariant-write_selections-items
invariant-write_selections-items g l =
    let left = selections_view g.N.Names.bytes (drop l.item-index l.items) in
    let whole = selections_view g.N.Names.bytes l.items in
    record {
      bound : l.margin + selections_levels l.style left * l.style.indent < 2 ^ 32;
      wrote : (done : List ℕ) × g.S.Sink.took l.initial.out done l.out
          × (done ++ text_of (selections_layout l.style l.margin left) ≡ text_of (selections_layout l.style l.margin whole));
      well_formed : AreWellFormedSelections left → AreWellFormedSelections whole;
    }
