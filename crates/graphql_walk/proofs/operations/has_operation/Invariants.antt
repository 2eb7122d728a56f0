use Rattle.std.proofs.Common.{◌≡◌, drop}
use Rattle.graphql_query.specs.Tree.{definitions_view}
use Rattle.graphql_walk.specs.{has_operation}
use Rattle.graphql_walk.proofs.operations.has_operation.Given as goal

abbrev pub invariant-definitions : goal.invariant-definitions
invariant-definitions g l =
    has_operation (definitions_view g.N.Names.bytes (drop l.definition-index l.definitions))
    ≡ has_operation (definitions_view g.N.Names.bytes l.definitions)
