use Rattle.std.proofs.Common.{inl, inr}
use Rattle.graphql_parser.specs.declared.tests.outputs.Lost.TheVariants as lost
use Rattle.graphql_parser.proofs.{at_passed, same_again, lost_again}
use Rattle.graphql_parser.proofs.tests.outputs.formatted_and_parsed.Goals as goal

pub returns-clause-same : goal.returns-clause-same
returns-clause-same g c =
    let back = at_passed _ _ _ c.map_err.ensures.cases c.map_err.ensures.variant c.in_ok-text.was c.format.ensures.parses_back c.requires in
    same_again _ _ _ _ c.deref.ensures back c.parse_query.ensures.parses c.map_err-2.ensures.cases

pub returns-clause-parsed : goal.returns-clause-parsed
returns-clause-parsed g c e h =
    let back = at_passed _ _ _ c.map_err.ensures.cases c.map_err.ensures.variant c.in_ok-text.was c.format.ensures.parses_back c.requires in
    let text = at_passed _ _ _ c.map_err.ensures.cases c.map_err.ensures.variant c.in_ok-text.was c.format.ensures.text in
    elim (lost_again lost.Parse _ _ (λ e f same. cc) c.deref.ensures back c.parse_query.ensures.parses c.map_err-2.ensures.cases e h) [
      | inl memory ↦ inl memory
      | inr past ↦ inr (rw text at past.0)
    ]
