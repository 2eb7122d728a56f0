use Rattle.std.proofs.Common.{◌≡◌, drop}
use Rattle.graphql_query.specs.Tree.{definitions_view}
use Rattle.graphql_walk.specs.{first_definition, is_fragment_named}
use Rattle.graphql_walk.proofs.operations.fragment_named.Given as goal

abbrev pub invariant-definitions : goal.invariant-definitions
invariant-definitions g l =
    first_definition (is_fragment_named l.name) (definitions_view g.N.Names.bytes (drop l.definition-index l.definitions))
    ≡ first_definition (is_fragment_named l.name) (definitions_view g.N.Names.bytes l.definitions)
