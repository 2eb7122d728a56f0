use Rattle.graphql_query.proofs.{none_begins_another}
use Rattle.graphql_query.proofs.laws.no_definition_begins_another.Goals as goal

pub returns : goal.returns
returns c = none_begins_another
