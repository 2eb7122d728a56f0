use Rattle.std.proofs.Common.{◌≡◌, ◌++◌, ◌+◌, ◌*◌, ◌<◌, ◌^◌, List, ℕ, drop, false, codes}
use Rattle.graphql_core.specs.{text_of, AreWellFormed, HoldWellFormed, items_view, members_view, parts, items_layout, members_layout, items_levels, members_levels}
use Rattle.graphql_core.proofs.format.print.values.+value.Given as goal

abbrev pub invariant-write_list-items : goal.invariant-write_list-items
invariant-write_list-items g l =
    let left = items_view g.N.Names.bytes (drop l.item-index l.items) in
    let whole = items_view g.N.Names.bytes l.items in
    record {
      bound : l.indented + items_levels l.style left * l.style.indent < 2 ^ 32;
      wrote : (done : List ℕ) × g.S.Sink.took l.fn.out done l.out
          × (done ++ text_of (parts l.style l.indented l.is_later (items_layout l.style l.indented left)) ≡ codes "["
          ++ text_of (parts l.style l.indented false (items_layout l.style l.indented whole)));
      well_formed : AreWellFormed left → AreWellFormed whole;
    }

abbrev pub invariant-write_object-members : goal.invariant-write_object-members
invariant-write_object-members g l =
    let left = members_view g.N.Names.bytes l.name-iterator in
    let whole = members_view g.N.Names.bytes l.members.entries in
    record {
      bound : l.indented + members_levels l.style left * l.style.indent < 2 ^ 32;
      wrote : (done : List ℕ) × g.S.Sink.took l.fn.out done l.out
          × (done ++ text_of (parts l.style l.indented l.is_later (members_layout l.style l.indented left)) ≡ codes "{"
          ++ text_of (parts l.style l.indented false (members_layout l.style l.indented whole)));
      well_formed : HoldWellFormed left → HoldWellFormed whole;
    }
