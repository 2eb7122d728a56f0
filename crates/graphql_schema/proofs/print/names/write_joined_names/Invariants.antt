use Rattle.std.proofs.Common.{◌≡◌, ◌++◌, List, ℕ, drop, map}
use Rattle.graphql_core.specs.{text_of}
use Rattle.graphql_schema.specs.{joined_names, later_names}
use Rattle.graphql_schema.proofs.print.names.write_joined_names.Given as goal

abbrev pub invariant-others : goal.invariant-others
invariant-others g l =
    let bytes = g.N.Names.bytes in
    record {
      wrote : (done : List ℕ) × g.S.Sink.took l.fn.out done l.out
          × (done ++ text_of (later_names l.separator (map bytes (drop l.name-index l.others))) ≡ text_of (joined_names l.separator (map bytes l.names)));
    }
