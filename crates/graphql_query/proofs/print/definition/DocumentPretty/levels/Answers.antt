use Rattle.std.proofs.Common.{sym}
use Rattle.graphql_core.proofs.{most_seen}
use Rattle.graphql_query.specs.{definition_levels, definition_view}
use Rattle.graphql_query.proofs.print.definition.DocumentPretty.levels.Goals as goal

pub returns : goal.returns
returns g c =
    let same = most_seen (definition_view g.N.Names.bytes) (definition_levels c.args.style.now) c.args.self.now.definitions.items in
    rw (sym same) (rw c.deref.ensures.value at c.levels_in_each.ensures)
