use Rattle.graphql_core.specs.{DirectiveTree, StyleOptions, arguments_levels, directive_layout, directive_view}
use Rattle.graphql_core.proofs.{displays}
use Rattle.graphql_core.proofs.format.print.display.DirectiveDisplay.fmt.Goals as goal

pub returns : goal.returns
returns g c =
    let levels = rw c.deref.ensures.value at c.levels_in_arguments.ensures in
    displays g.W.Write.write_str_gives _ _ c.write_directive.result c.default-style.result (λ (s : StyleOptions). directive_layout s 0)
    (λ (s : StyleOptions) (d : DirectiveTree). arguments_levels s d.arguments) (directive_view g.N.Names.bytes c.args.self.now) _ c.default-style.ensures levels
    c.in_ok-check_width.ensures c.write_directive.ensures.text
