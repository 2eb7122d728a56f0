use Rattle.std.proofs.Common.{refl, sym, ap, ◌∙◌, Some}
use Rattle.graphql_core.proofs.{there, none_given, fails_last, whole}
use Rattle.graphql_schema.proofs.{description_begins, begins_description}
use Rattle.graphql_schema.proofs.read.description.optional_description.Goals as goal

pub returns-then-not-sees_description : goal.returns-then-not-sees_description
returns-then-not-sees_description g c =
    let seen = begins_description (g.S.TokenSource.items c.args.source.now) ∙ sym c.sees_description.ensures in
    none_given description_begins (seen ∙ c.if-not-sees_description.true) refl

pub returns-in_err-description : goal.returns-in_err-description
returns-in_err-description g c =
    let seen = begins_description (g.S.TokenSource.items c.args.source.now) ∙ sym c.sees_description.ensures in
    fails_last _ _ _ _ (there description_begins (seen ∙ c.if-not-sees_description.false)) c.in_err-description.ensures c.from_residual.ensures.1

pub returns : goal.returns
returns g c =
    let seen = begins_description (g.S.TokenSource.items c.args.source.now) ∙ sym c.sees_description.ensures in
    let (x, taken, is) = c.in_ok-description.ensures in
    whole (there description_begins (seen ∙ c.if-not-sees_description.false)) taken (ap Some is)
