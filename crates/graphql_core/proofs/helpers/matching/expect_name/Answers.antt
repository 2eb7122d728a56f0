use Rattle.std.proofs.Common.{sym, ◌∙◌}
use Rattle.graphql_core.specs.{AnyOf, kind_number}
use Rattle.graphql_core.specs.declared.tokenizer.token.Kind.TheVariants.{Name}
use Rattle.graphql_core.proofs.{takes_token, seen_matches}
use Rattle.graphql_core.proofs.helpers.matching.expect_name.Goals as goal

pub returns-in_ok-name-in-Some : goal.returns-in_ok-name-in-Some
returns-in_ok-name-in-Some g c =
    let is = seen_matches (AnyOf (kind_number Name)) (g.S.TokenSource.items c.args.source.now) _ c.in-Some.ensures.next
    (sym c.sees_name.ensures ∙ c.if-sees_name.true) in
    (_, takes_token _ _ _ _ c.in-Some.ensures.next c.advance.ensures is, sym c.in_ok-name-in-Some.ensures)
