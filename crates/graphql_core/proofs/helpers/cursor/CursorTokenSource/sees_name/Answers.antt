use Rattle.std.proofs.Common.{ap, ◌∙◌}
use Rattle.graphql_core.specs.{AnyOf, kind_number, is_name_start, sees_class}
use Rattle.graphql_core.specs.declared.tokenizer.token.Kind.TheVariants.{Name}
use Rattle.graphql_core.proofs.lexical.FirstBytes as fronts
use Rattle.graphql_core.proofs.helpers.cursor.CursorTokenSource.sees_name.Goals as goal

pub returns : goal.returns
returns g c =
    c.is_name_start.ensures ∙ ap is_name_start c.self.invariant.1 ∙ fronts.sees_name _ c.self.invariant.0
    ∙ ap (sees_class (AnyOf (kind_number Name))) c.self.view_is
