use Rattle.std.proofs.Common.{◌≡◌, Option, Result, Ok, Err, IfOk, IfSome, sym, subst}
use Rattle.std.specs.Result.{result_ok}
use Rattle.graphql_query.specs.{document_view, IsDocumentOf}
use Rattle.graphql_parser.proofs.tests.outputs.formatted_source.Goals as goal

-- what follows where all is well holds of what `ok` keeps
kept : {A E : Type 0} (r : Result A E) (o : Option A) (P Q : A → Type 0) → o ≡ result_ok r → ((v : A) → P v → Q v) → IfOk r P → IfSome o Q
kept (Ok v) o P Q is so h = subst (λ (x : Option _). IfSome x Q) (sym is) (so v h)
kept (Err e) o P Q is so h = subst (λ (x : Option _). IfSome x Q) (sym is) tt

pub returns : goal.returns
returns c =
    let document = document_view _ c.in_ok-document.document in
    let derived = kept c.parse_query.result _ _ (λ d. IsDocumentOf c.args.source.now (document_view _ d))
    c.in_ok-document.ensures.value (λ d h. h) c.parse_query.ensures.parses.sound in
    kept c.format.result c.ok-2.result _ _ c.ok-2.ensures.value (λ text is. (document, derived, is)) c.format.ensures.text
