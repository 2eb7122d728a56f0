use Rattle.std.proofs.Common.{refl, sym, ap, ◌∙◌, map}
use Rattle.graphql_core.proofs.{took, past, none_given, gives_led}
use Rattle.graphql_schema.proofs.{implements_begins, opens}
use Rattle.graphql_schema.proofs.read.names.optional_implements.Goals as goal

pub returns-then-not-sees_keyword : goal.returns-then-not-sees_keyword
returns-then-not-sees_keyword g c =
    none_given implements_begins (sym c.sees_keyword.ensures ∙ c.if-not-sees_keyword.true) (ap (map g.S.Names.Names.bytes) c.new.ensures.items)

pub returns : goal.returns
returns g c =
    let lead = opens implements_begins (λ x. refl) (sym c.sees_keyword.ensures ∙ c.if-not-sees_keyword.false) in
    gives_led _ _ _ _ (past lead (took c.in_ok-expect_keyword.ensures.1 refl)) (λ v x h is. is) c.joined_names.ensures
