use Rattle.graphql_c.proofs.{returned}
use Rattle.graphql_c.proofs.graphql_proved_normalize_schema_nonnull.Goals as goal

pub returns : goal.returns
returns c = returned c.normalize_schema.result (rw c.style_in-style.ensures at c.normalize_schema.ensures) c.of_output.ensures
