use Rattle.std.proofs.Common.{refl, sym, ap, ◌∙◌, Some}
use Rattle.graphql_core.specs.{Leaf, First, Second, Nothing}
use Rattle.graphql_core.proofs.{takes_one, takes_some, takes_none}
use Rattle.graphql_query.specs.{reading}
use Rattle.graphql_core.specs.values.Grammar as shared
use Rattle.graphql_query.proofs.read.operation.optional_name.Goals as goal

pub returns-then-not-sees_name : goal.returns-then-not-sees_name
returns-then-not-sees_name g c = (Second Nothing, (takes_none reading shared.name _ refl (sym c.sees_name.ensures ∙ c.if-not-sees_name.true), refl), refl)

pub returns : goal.returns
returns g c =
    let (t, takes, spelled) = c.in_ok-expect_name.ensures in (
      First (Leaf t),
      takes_some reading shared.name _ _ _ (sym c.sees_name.ensures ∙ c.if-not-sees_name.false) (takes_one reading _ _ _ t refl takes),
      ap Some (sym spelled),
    )
