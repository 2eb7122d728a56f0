use Rattle.std.proofs.Common.{refl, sym, ◌∙◌, codes}
use Rattle.graphql_core.specs.{Leaf, First, Second, Nothing, word}
use Rattle.graphql_core.proofs.{takes_one, takes_some, takes_none}
use Rattle.graphql_schema.proofs.{reading}
use Rattle.graphql_schema.proofs.read.directive.repeatable.Goals as goal

pub returns-then-not-sees_keyword : goal.returns-then-not-sees_keyword
returns-then-not-sees_keyword g c =
    (Second Nothing, (takes_none reading (word (codes "repeatable")) _ refl (sym c.sees_keyword.ensures ∙ c.if-not-sees_keyword.true), refl), refl)

pub returns : goal.returns
returns g c =
    let (t, begins, at) = c.in_ok-expect_keyword.ensures in (
      First (Leaf t),
      takes_some reading (word (codes "repeatable")) _ _ _ (sym c.sees_keyword.ensures ∙ c.if-not-sees_keyword.false) (takes_one reading _ _ _ t refl begins),
      refl,
    )
