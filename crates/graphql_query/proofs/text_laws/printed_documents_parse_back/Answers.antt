use Rattle.graphql_query.proofs.{parse_back}
use Rattle.graphql_query.proofs.text_laws.printed_documents_parse_back.Goals as goal

pub returns : goal.returns
returns c = parse_back
