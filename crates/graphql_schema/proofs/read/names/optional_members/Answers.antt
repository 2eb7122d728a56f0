use Rattle.std.proofs.Common.{refl, sym, ap, ◌∙◌, map}
use Rattle.graphql_core.proofs.{took, past, none_given, gives_led}
use Rattle.graphql_schema.proofs.{members_begins, opens}
use Rattle.graphql_schema.proofs.read.names.optional_members.Goals as goal

pub returns-then-not-sees_punctuator : goal.returns-then-not-sees_punctuator
returns-then-not-sees_punctuator g c =
    none_given members_begins (sym c.sees_punctuator.ensures ∙ c.if-not-sees_punctuator.true) (ap (map g.S.Names.Names.bytes) c.new.ensures.items)

pub returns : goal.returns
returns g c =
    let lead = opens members_begins (λ x. refl) (sym c.sees_punctuator.ensures ∙ c.if-not-sees_punctuator.false) in
    gives_led _ _ _ _ (past lead (took c.in_ok-expect_punctuator.ensures.1 refl)) (λ v x h is. is) c.joined_names.ensures
