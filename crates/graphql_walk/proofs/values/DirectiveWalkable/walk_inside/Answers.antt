use Rattle.graphql_walk.proofs.values.DirectiveWalkable.walk_inside.Goals as goal

pub returns : goal.returns
returns g c = rw c.deref.ensures.value at c.walk_arguments.ensures
