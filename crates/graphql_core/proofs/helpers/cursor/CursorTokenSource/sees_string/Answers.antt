use Rattle.std.proofs.Common.{◌||◌, ◌==◌, ap, ◌∙◌}
use Rattle.graphql_core.specs.{AnyOf, kind_number, sees_class}
use Rattle.graphql_core.specs.declared.tokenizer.token.Kind.TheVariants.{StringValue, BlockString}
use Rattle.graphql_core.proofs.lexical.FirstBytes as fronts
use Rattle.graphql_core.proofs.helpers.cursor.CursorTokenSource.sees_string.Goals as goal

pub returns : goal.returns
returns g c =
    ap (λ b. b == 34) c.self.invariant.1 ∙ fronts.sees_string _ c.self.invariant.0
    ∙ ap (λ i. sees_class (AnyOf (kind_number StringValue)) i || sees_class (AnyOf (kind_number BlockString)) i) c.self.view_is
