use Rattle.graphql_core.specs.{StyleOptions, value_layout, value_levels, value_view}
use Rattle.graphql_core.proofs.{displays}
use Rattle.graphql_core.proofs.format.print.display.ValueDisplay.fmt.Goals as goal

pub returns : goal.returns
returns g c =
    displays g.W.Write.write_str_gives _ _ c.write_value.result c.default-style.result (λ (s : StyleOptions). value_layout s 0) value_levels
    (value_view g.N.Names.bytes c.args.self.now) _ c.default-style.ensures c.levels_in_value.ensures c.in_ok-check_width.ensures c.write_value.ensures.text
