use Rattle.std.proofs.Common.{refl, sym, ap, ◌∙◌, Some}
use Rattle.graphql_core.proofs.{whole, fails_last, default_begins, there, none_given}
use Rattle.graphql_core.proofs.common.read.directives.optional_default.Goals as goal

pub returns-then-not-sees_punctuator : goal.returns-then-not-sees_punctuator
returns-then-not-sees_punctuator g c = none_given default_begins (sym c.sees_punctuator.ensures ∙ c.if-not-sees_punctuator.true) refl

pub returns-in_err-default_value : goal.returns-in_err-default_value
returns-in_err-default_value g c =
    let lead = there default_begins (sym c.sees_punctuator.ensures ∙ c.if-not-sees_punctuator.false) in
    fails_last _ _ _ _ lead c.in_err-default_value.ensures c.from_residual.ensures.1

pub returns : goal.returns
returns g c =
    let (x, takes, view) = c.in_ok-default_value.ensures in
    whole (there default_begins (sym c.sees_punctuator.ensures ∙ c.if-not-sees_punctuator.false)) takes (ap Some view)
