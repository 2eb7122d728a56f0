use Rattle.graphql_json.specs.Schema.{document_json}
use Rattle.graphql_json.specs.Json.{json_text}
use Rattle.graphql_schema.specs.{schemas}
use Rattle.graphql_c.proofs.{written_as_json}
use Rattle.graphql_c.proofs.calls.schema_as_json.Goals as goal

pub returns : goal.returns
returns c =
    written_as_json schemas _ _ (λ d. json_text (document_json d)) _ _ c.in_ok-document.ensures c.schema_to_json.ensures c.json_of.ensures
