use Rattle.graphql_json.specs.Json.{json_text}
use Rattle.graphql_c.proofs.errors.RefStrToJson.write.Goals as goal

pub returns : goal.returns
unfolding json_text
returns c = c.write_quoted.ensures
