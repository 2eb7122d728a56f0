use Rattle.std.proofs.Common.{refl}
use Rattle.graphql_core.proofs.{one_least, least_is_first}
use Rattle.graphql_query.specs.{queries}
use Rattle.graphql_query.proofs.{readable}
use Rattle.graphql_query.proofs.laws.first_errors_stop_all_documents.Goals as goal

pub returns : goal.returns
returns c = record { one = one_least queries readable; first = least_is_first queries readable refl }
