use Rattle.graphql_c.proofs.{returned}
use Rattle.graphql_c.proofs.graphql_proved_schema_to_json_nonnull.Goals as goal

pub returns : goal.returns
returns c = returned _ c.schema_as_json.ensures c.of_output.ensures
