use Rattle.std.proofs.Common.{drop}
use Rattle.graphql_core.specs.{arguments_view}
use Rattle.graphql_walk.specs.{arguments_branches}
use Rattle.graphql_walk.proofs.Walked.{Ends}
use Rattle.graphql_walk.proofs.values.walk_arguments.Given as goal

abbrev pub invariant-arguments : goal.invariant-arguments
invariant-arguments g l =
    Ends g.V.Visitor.visited (arguments_branches (arguments_view g.N.Names.bytes (drop l.argument-index l.arguments))) l.visitor
    (arguments_branches (arguments_view g.N.Names.bytes l.arguments)) l.fn.visitor
