use Rattle.graphql_c.proofs.{returned, never_short}
use Rattle.graphql_c.proofs.graphql_proved_minify_nonnull.Goals as goal

pub returns-clause-returned : goal.returns-clause-returned
returns-clause-returned c = returned _ c.minified.ensures c.of_output.ensures

pub returns-clause-enough : goal.returns-clause-enough
returns-clause-enough c = never_short (returned _ c.minified.ensures c.of_output.ensures)
