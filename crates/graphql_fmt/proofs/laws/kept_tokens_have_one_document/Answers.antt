use Rattle.graphql_query.specs.{queries}
use Rattle.graphql_query.proofs.documents.MeaningsAlike as query
use Rattle.graphql_schema.specs.{schemas}
use Rattle.graphql_schema.proofs.documents.MeaningsAlike as schema
use Rattle.graphql_fmt.proofs.Formatting.{same_document}
use Rattle.graphql_fmt.proofs.SameTrees.{same_trees}
use Rattle.graphql_fmt.proofs.laws.kept_tokens_have_one_document.Goals as goal

pub returns : goal.returns
returns c = record {
  queries = same_document queries query.by_values;
  schemas = same_document schemas schema.by_values;
  standard = same_trees;
}
