use Rattle.graphql_json.specs.Json.{json_text}
use Rattle.graphql_c.proofs.errors.OptionToJson.write.Goals as goal

pub returns-in-Some : goal.returns-in-Some
returns-in-Some g c = rw c.in-Some.is c.write.ensures

pub returns-in-None : goal.returns-in-None
unfolding json_text
returns-in-None g c = rw c.in-None.is c.write_text.ensures
