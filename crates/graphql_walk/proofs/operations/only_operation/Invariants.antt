use Rattle.std.proofs.Common.{◌≡◌, drop}
use Rattle.graphql_query.specs.Tree.{definitions_view}
use Rattle.graphql_walk.specs.{only_operation}
use Rattle.graphql_walk.proofs.operations.only_operation.Given as goal

abbrev pub invariant-definitions : goal.invariant-definitions
invariant-definitions g l =
    only_operation (definitions_view g.N.Names.bytes (drop l.index l.definitions))
    ≡ only_operation (definitions_view g.N.Names.bytes l.definitions)
