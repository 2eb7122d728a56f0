use Rattle.std.proofs.Common.{rules}
use Rattle.graphql_core.proofs.{most_seen}
use Rattle.graphql_schema.specs.{definition_levels, definition_view}
use Rattle.graphql_schema.proofs.print.definition.DocumentPretty.levels.Goals as goal

pub returns : goal.returns
returns g c =
    let seen = most_seen (definition_view g.N.Names.bytes) (definition_levels c.args.style.now) c.args.self.now.definitions.items in
    rw (← seen, ← c.deref.ensures.value) (search rules)
