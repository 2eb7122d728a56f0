use Rattle.std.proofs.Common.{arith}
use Rattle.graphql_core.proofs.{most_seen}
use Rattle.graphql_query.specs.{variable_definition_levels, variable_definition_view}
use Rattle.graphql_query.proofs.print.operation.OperationPartsPretty.levels.Goals as goal

pub returns : goal.returns
returns g c =
    let view = variable_definition_view g.N.Names.bytes in
    let same = most_seen view (variable_definition_levels c.args.style.now) c.args.self.now.variables.now.items in
    let each = rw (c.deref.ensures.value, same) at c.levels_in_each-variables.ensures in
    let directives = rw c.deref-2.ensures.value at c.levels_in_directives.ensures in
    omega (arith, each, directives, c.levels.ensures, c.max.ensures, c.max-around.ensures)
