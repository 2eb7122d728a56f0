use Rattle.std.proofs.Common.{Some, refl, sym, ap, ◌∙◌}
use Rattle.graphql_core.proofs.{there, none_given, fails_last, whole}
use Rattle.graphql_query.proofs.{type_condition_begins}
use Rattle.graphql_query.proofs.read.fragment.optional_type_condition.Goals as goal

pub returns-then-not-sees_keyword : goal.returns-then-not-sees_keyword
returns-then-not-sees_keyword g c = none_given type_condition_begins (sym c.sees_keyword.ensures ∙ c.if-not-sees_keyword.true) refl

pub returns-in_err-type_condition : goal.returns-in_err-type_condition
returns-in_err-type_condition g c =
    let lead = there type_condition_begins (sym c.sees_keyword.ensures ∙ c.if-not-sees_keyword.false) in
    fails_last _ _ _ _ lead c.in_err-type_condition.ensures c.from_residual.ensures.1

pub returns : goal.returns
returns g c =
    let (x, takes, view) = c.in_ok-type_condition.ensures in
    whole (there type_condition_begins (sym c.sees_keyword.ensures ∙ c.if-not-sees_keyword.false)) takes (ap Some view)
