use Rattle.graphql_core.proofs.{parsed_alike, one_cause_alike}
use Rattle.graphql_query.specs.{queries}
use Rattle.graphql_query.proofs.{readable, by_values, rejects_alike}
use Rattle.graphql_query.proofs.laws.minified_texts_are_parsed_alike.Goals as goal

pub returns : goal.returns
returns c = record {
  alike = parsed_alike queries by_values;
  one_cause = one_cause_alike queries by_values rejects_alike readable;
}
