use Rattle.graphql_c.proofs.{returned}
use Rattle.graphql_c.proofs.graphql_proved_format_source_nonnull.Goals as goal

pub returns : goal.returns
returns c = returned _ c.format_source.ensures c.of_output.ensures
