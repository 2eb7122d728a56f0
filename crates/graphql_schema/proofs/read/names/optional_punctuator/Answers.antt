use Rattle.std.proofs.Common.{refl, sym, ◌∙◌}
use Rattle.graphql_core.specs.{Leaf, First, Second, Nothing}
use Rattle.graphql_core.proofs.{takes_one, takes_some, takes_none}
use Rattle.graphql_schema.proofs.{reading}
use Rattle.graphql_schema.proofs.read.names.optional_punctuator.Goals as goal

pub returns-in_ok-expect_punctuator : goal.returns-in_ok-expect_punctuator
returns-in_ok-expect_punctuator g c =
    let (t, begins, at) = c.in_ok-expect_punctuator.ensures in
    (First (Leaf t), takes_some reading _ _ _ _ (sym c.sees_punctuator.ensures ∙ c.if-sees_punctuator.true) (takes_one reading _ _ _ t refl begins), tt)

pub returns-else-sees_punctuator : goal.returns-else-sees_punctuator
returns-else-sees_punctuator g c = (Second Nothing, (takes_none reading _ _ refl (sym c.sees_punctuator.ensures ∙ c.if-sees_punctuator.false), refl), tt)
