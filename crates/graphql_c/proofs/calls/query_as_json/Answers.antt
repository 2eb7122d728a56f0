use Rattle.graphql_json.specs.Query.{document_json}
use Rattle.graphql_json.specs.Json.{json_text}
use Rattle.graphql_query.specs.{queries}
use Rattle.graphql_c.proofs.{written_as_json}
use Rattle.graphql_c.proofs.calls.query_as_json.Goals as goal

pub returns : goal.returns
returns c =
    written_as_json queries _ _ (λ d. json_text (document_json d)) _ _ c.in_ok-document.ensures c.query_to_json.ensures c.json_of.ensures
