use Rattle.std.proofs.Common.{option_map}
use Rattle.graphql_core.specs.{value_view, type_view, directives_view, type_layout, directives_layout, default_layout}
use Rattle.graphql_core.proofs.{and_last}
use Rattle.graphql_query.proofs.{variable_definition_text}
use Rattle.graphql_query.proofs.print.operation.VariableDefinitionPretty.write.Goals as goal

pub returns-clause-text : goal.returns-clause-text
returns-clause-text g c =
    let bytes = g.N.Names.bytes in
    let more = g.met.S.Sink.took_more in
    let v = c.args.self.now in
    let written = more _ _ _ _ _ c.in_ok-push_three.ensures c.in_ok-write_type.ensures in
    let directives = rw c.deref.ensures.value at c.write_directives.ensures.text in
    and_last g.S.Sink.took more _ _ _ _ _ _ _ (more _ _ _ _ _ written c.in_ok-write_default.ensures.text) directives
    (rw c.view.ensures (variable_definition_text (bytes v.name) (type_layout (type_view bytes v.var_type))
    (default_layout c.args.style.now 0 (option_map (value_view bytes) v.default_value))
    (directives_layout c.args.style.now 0 (directives_view bytes v.directives.items))))
