use Rattle.graphql_core.proofs.{minified_document, source_document, parsed_alike, one_cause_alike}
use Rattle.graphql_schema.specs.{schemas}
use Rattle.graphql_schema.proofs.{readable, by_values, rejects_alike}
use Rattle.graphql_schema.proofs.laws.minified_texts_are_parsed_alike.Goals as goal

pub returns : goal.returns
returns c = record {
  document = λ source text d is. minified_document schemas by_values source text is d;
  no_other = λ source text d is. source_document schemas by_values source text is d;
  alike = parsed_alike schemas by_values;
  one_cause = one_cause_alike schemas by_values rejects_alike readable;
}
