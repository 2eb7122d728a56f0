use Rattle.std.proofs.Common.{string_bytes, inl, inr}
use Rattle.std.proofs.lemmas.Result.{IfOk-weaker}
use Rattle.graphql_query.specs.{ParsesBackTo, document_view}
use Rattle.graphql_parser.specs.declared.tests.outputs.Lost.TheVariants as lost
use Rattle.graphql_parser.proofs.{at_passed, mapped, same_again, lost_again}
use Rattle.graphql_parser.proofs.tests.outputs.minified_and_parsed.Goals as goal

pub returns-clause-same : goal.returns-clause-same
returns-clause-same c d has =
    let back = at_passed _ _ _ c.map_err.ensures.cases c.map_err.ensures.variant c.in_ok-text.was c.minify_query.ensures.document d has in
    same_again _ _ _ _ c.deref.ensures back c.parse_query.ensures.parses c.map_err-2.ensures.cases

pub returns-clause-no_other : goal.returns-clause-no_other
returns-clause-no_other c =
    let other = at_passed _ _ _ c.map_err.ensures.cases c.map_err.ensures.variant c.in_ok-text.was c.minify_query.ensures.no_other in
    mapped _ _ lost.Parse (λ v. ParsesBackTo (string_bytes c.args.source) (document_view string_bytes v)) (λ y. Unit {0}) c.map_err-2.ensures.cases
    (IfOk-weaker c.parse_query.result _ _ (λ v has. other (document_view string_bytes v) (rw c.deref.ensures at has)) c.parse_query.ensures.parses.sound)

pub returns-clause-parsed : goal.returns-clause-parsed
returns-clause-parsed c d e has h =
    let back = at_passed _ _ _ c.map_err.ensures.cases c.map_err.ensures.variant c.in_ok-text.was c.minify_query.ensures.document d has in
    elim (lost_again lost.Parse _ _ (λ e f same. cc) c.deref.ensures back c.parse_query.ensures.parses c.map_err-2.ensures.cases e h) [
      | inl memory ↦ inl memory
      | inr past ↦ inr past.1
    ]
