use Rattle.graphql_core.specs.{directives_layout, directives_view}
use Rattle.graphql_core.proofs.{and_last}
use Rattle.graphql_query.specs.{type_condition_view, selection_set_view, type_condition_layout, selection_set_layout}
use Rattle.graphql_query.proofs.{fragment_definition_text}
use Rattle.graphql_query.proofs.print.definition.FragmentDefinitionPretty.write.Goals as goal

pub returns-clause-text : goal.returns-clause-text
returns-clause-text g c =
    let bytes = g.N.Names.bytes in
    let more = g.met.S.Sink.took_more in
    let f = c.args.self.now in
    let style = c.args.style.now in
    let directives = rw c.deref.ensures.value at c.in_ok-write_directives.ensures.text in
    let on = more _ _ _ _ _ (more _ _ _ _ _ c.in_ok-push_three.ensures c.in_ok-write_type_condition.ensures) directives in
    let text = fragment_definition_text (bytes f.name) (type_condition_layout (type_condition_view bytes f.type_condition))
    (directives_layout style 0 (directives_view bytes f.directives.items)) (selection_set_layout style 0 (selection_set_view bytes f.selection_set)) in
    and_last g.S.Sink.took more _ _ _ _ _ _ _ on c.write_selection_set.ensures.text (rw c.view.ensures text)
