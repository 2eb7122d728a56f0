use Rattle.std.proofs.Common.{rules}
use Rattle.graphql_core.proofs.{most_seen}
use Rattle.graphql_schema.specs.{input_value_levels, input_value_view}
use Rattle.graphql_schema.proofs.print.field.FieldPretty.levels.Goals as goal

pub returns : goal.returns
returns g c =
    let seen = most_seen (input_value_view g.N.Names.bytes) (input_value_levels c.args.style.now) c.args.self.now.arguments.items in
    rw (← seen, ← c.deref.ensures.value, ← c.deref-2.ensures.value) (search rules)
