use Rattle.graphql_core.proofs.{deepest_is}
use Rattle.graphql_query.proofs.{document_rises}
use Rattle.graphql_query.proofs.text_laws.brackets_are_those_of_the_layout.Goals as goal

pub returns : goal.returns
returns c style d = deepest_is (document_rises style d)
