use Rattle.std.proofs.Common.{◌≡◌, ◌++◌, List, ℕ, codes, drop, map}
use Rattle.graphql_core.specs.{text_of}
use Rattle.graphql_schema.specs.{locations_layout, later_names, word_of}
use Rattle.graphql_schema.proofs.print.names.write_locations.Given as goal

abbrev pub invariant-others : goal.invariant-others
invariant-others g l = record {
  wrote : (done : List ℕ) × g.S.Sink.took l.fn.out done l.out
      × (done ++ text_of (later_names (codes "|") (map word_of (drop l.location-index l.others))) ≡ text_of (locations_layout l.locations));
}
