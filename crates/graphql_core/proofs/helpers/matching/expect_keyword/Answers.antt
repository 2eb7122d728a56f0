use Rattle.std.proofs.Common.{sym, ◌∙◌, refl}
use Rattle.graphql_core.proofs.{takes_token}
use Rattle.graphql_core.proofs.helpers.matching.expect_keyword.Goals as goal

pub returns-in-Some : goal.returns-in-Some
returns-in-Some g c = (_, takes_token _ _ _ _ c.in-Some.ensures.next c.advance.ensures (sym c.is_keyword.ensures ∙ c.if-is_keyword.true), refl)
