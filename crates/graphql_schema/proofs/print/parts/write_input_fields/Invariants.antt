use Rattle.std.proofs.Common.{◌≡◌, ◌++◌, ◌+◌, ◌*◌, ◌<◌, ◌^◌, List, ℕ, drop, map}
use Rattle.graphql_core.specs.{text_of, most}
use Rattle.std.specs.List.{AllByRecursion, flat_map}
use Rattle.graphql_schema.specs.{IsWellFormedInputValue, input_field_layout, input_value_levels, input_value_view}
use Rattle.graphql_schema.proofs.print.parts.write_input_fields.Given as goal

abbrev pub invariant-fields : goal.invariant-fields
invariant-fields g l =
    let view = input_value_view g.N.Names.bytes in
    let lines = input_field_layout l.style l.margin in
    let left = drop l.field-index l.fields in
    record {
      bound : l.margin + most (input_value_levels l.style) (map view left) * l.style.indent < 2 ^ 32;
      wrote : (done : List ℕ) × g.S.Sink.took l.fn.out done l.out
          × (done ++ text_of (flat_map lines (map view left)) ≡ text_of (flat_map lines (map view l.fields)));
      well_formed : AllByRecursion IsWellFormedInputValue (map view left) → AllByRecursion IsWellFormedInputValue (map view l.fields);
    }
