use Rattle.graphql_query.specs.Tree.{variable_definition_view}
use Rattle.graphql_walk.specs.{variable_definition_branch}
use Rattle.graphql_walk.proofs.{returned, and_then, and_halted, each_as}
use Rattle.graphql_walk.proofs.query.walk_operation_parts.Goals as goal

pub returns-in_err-walk_each : goal.returns-in_err-walk_each
returns-in_err-walk_each g c = rw (returned _ _ c.from_residual.ensures.1) (and_halted g.V.Visitor.visited _ _ _ _ _ (each_as g.V.Visitor.visited variable_definition_branch (variable_definition_view g.N.Names.bytes) _ _ _ c.args.variables.now c.in_err-walk_each.ensures))

pub returns : goal.returns
returns g c = and_then g.V.Visitor.visited _ _ _ _ _ _ (each_as g.V.Visitor.visited variable_definition_branch (variable_definition_view g.N.Names.bytes) _ _ _ c.args.variables.now c.in_ok-walk_each.ensures) c.walk_directives_and_set.ensures
