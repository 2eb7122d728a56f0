use Rattle.std.proofs.Common.{refl, sym, ap, ◌∙◌, codes}
use Rattle.graphql_core.specs.{Leaf, First, Second, Nothing, shared, punctuator, non_null, type_view}
use Rattle.graphql_core.proofs.{takes_one, takes_some, takes_none, non_null_made}
use Rattle.graphql_core.proofs.common.read.types.optional_non_null.Goals as goal

pub returns-then-sees_punctuator : goal.returns-then-sees_punctuator
returns-then-sees_punctuator g c =
    let (t, takes, at) = c.in_ok-expect_punctuator.ensures in (
      First (Leaf t),
      takes_some shared (punctuator (codes "!")) _ _ _ (sym c.sees_punctuator.ensures ∙ c.if-sees_punctuator.true) (takes_one shared _ _ _ t refl takes),
      non_null_made _ _ g.S.Names.Names.bytes _ ∙ ap (λ t. non_null (type_view g.S.Names.Names.bytes t)) c.in_ok-new.ensures.ok,
    )

pub returns : goal.returns
returns g c =
    (Second Nothing, (takes_none shared (punctuator (codes "!")) _ refl (sym c.sees_punctuator.ensures ∙ c.if-sees_punctuator.false), refl), refl)
