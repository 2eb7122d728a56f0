use Rattle.graphql_schema.proofs.{layout_alike}
use Rattle.graphql_schema.proofs.text_laws.text_has_no_positions.Goals as goal

pub returns : goal.returns
returns c = layout_alike
