use Rattle.std.proofs.Common.{ap, ◌∙◌}
use Rattle.graphql_core.specs.{items_of_stream}
use Rattle.graphql_core.proofs.{fresh}
use Rattle.graphql_core.proofs.helpers.cursor.Cursor.new.Goals as goal

pub returns : goal.returns
returns g c items has = c.over.ensures.items ∙ ap items_of_stream (fresh _ items (c.new.ensures.only items has) c.new.ensures.cuts)
