use Rattle.graphql_standard.proofs.AsWritten.{as_written}
use Rattle.graphql_standard.proofs.laws.documents_are_as_written.Goals as goal

pub returns : goal.returns
returns c = as_written
