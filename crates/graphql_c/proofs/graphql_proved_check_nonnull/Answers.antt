use Rattle.graphql_c.proofs.{returned}
use Rattle.graphql_c.proofs.graphql_proved_check_nonnull.Goals as goal

pub returns : goal.returns
returns c = returned _ c.checked.ensures c.of_output.ensures
