use Rattle.std.proofs.Common.{ap, ◌∙◌}
use Rattle.graphql_core.specs.{sees_class, class_of}
use Rattle.graphql_core.proofs.lexical.FirstBytes as fronts
use Rattle.graphql_core.proofs.helpers.cursor.CursorTokenSource.sees_punctuator.Goals as goal

pub returns : goal.returns
returns g c =
    rw (c.first_byte.ensures, c.self.invariant.1) (fronts.sees_punctuator c.args.punctuator _ c.self.invariant.0)
    ∙ ap (sees_class (class_of c.args.punctuator)) c.self.view_is
