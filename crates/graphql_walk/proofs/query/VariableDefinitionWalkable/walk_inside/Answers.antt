use Rattle.std.proofs.Common.{refl, Ok, Err}
use Rattle.graphql_core.specs.{value_view}
use Rattle.graphql_walk.specs.{value_branch}
use Rattle.graphql_walk.proofs.{returned, and_then, and_halted, optional_as}
use Rattle.graphql_walk.proofs.query.VariableDefinitionWalkable.walk_inside.Goals as goal

pub returns-in_err-walk_type : goal.returns-in_err-walk_type
returns-in_err-walk_type g c = rw (returned _ _ c.from_residual.ensures.1) (Err _, _, c.in_err-walk_type.ensures, (refl, refl))

pub returns-in_err-walk_optional : goal.returns-in_err-walk_optional
returns-in_err-walk_optional g c =
    rw (returned _ _ c.from_residual-in_err-walk_optional.ensures.1) (Ok tt, _, c.in_ok-walk_type.ensures, and_halted g.V.Visitor.visited _ _ _ _ _ (optional_as g.V.Visitor.visited value_branch (value_view g.N.Names.bytes) _ _ _ c.args.self.now.default_value c.in_err-walk_optional.ensures))

pub returns : goal.returns
returns g c = (
  Ok tt,
  _,
  c.in_ok-walk_type.ensures,
  and_then g.V.Visitor.visited _ _ _ _ _ _ (optional_as g.V.Visitor.visited value_branch (value_view g.N.Names.bytes) _ _ _ c.args.self.now.default_value c.in_ok-walk_optional.ensures) (rw c.deref.ensures.value at c.walk_directives.ensures),
)
