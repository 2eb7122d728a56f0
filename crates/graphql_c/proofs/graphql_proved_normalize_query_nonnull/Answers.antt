use Rattle.graphql_c.proofs.{returned}
use Rattle.graphql_c.proofs.graphql_proved_normalize_query_nonnull.Goals as goal

pub returns : goal.returns
returns c = returned c.normalize_query.result (rw c.style_in-style.ensures at c.normalize_query.ensures) c.of_output.ensures
