use Rattle.std.proofs.Common.{◌^◌, arith}
use Rattle.std.proofs.lemmas.Result.{on_ok_weaker}
use Rattle.graphql_core.specs.{directives_layout}
use Rattle.graphql_core.proofs.{and_last, narrower}
use Rattle.graphql_query.specs.{keyword, operation_seen, operation_name_layout, variable_definitions_layout, selection_set_layout}
use Rattle.graphql_query.proofs.{operation_text}
use Rattle.graphql_query.proofs.print.operation.OperationPartsPretty.write.Goals as goal

pub write_variable_definitions-requires : goal.write_variable_definitions-requires
write_variable_definitions-requires g c =
    let fits = (narrower _ _ _ c.args.style.now.indent (2 ^ 32) c.requires).0 in
    rw c.deref.ensures.value (omega (arith, fits))

pub returns-clause-text : goal.returns-clause-text
returns-clause-text g c =
    let more = g.met.S.Sink.took_more in
    let style = c.args.style.now in
    let o = operation_seen g.N.Names.bytes c.args.self.now in
    let variables = rw c.deref.ensures.value at c.in_ok-write_variable_definitions.ensures.text in
    let directives = rw c.deref-2.ensures.value at c.in_ok-write_directives.ensures.text in
    let named = more _ _ _ _ _ (more _ _ _ _ _ c.in_ok-push_str.ensures c.in_ok-write_operation_name.ensures) variables in
    and_last g.S.Sink.took more _ _ _ _ _ _ _ (more _ _ _ _ _ named directives) c.write_selection_set.ensures.text
    (rw c.word.ensures (operation_text (keyword o.kind) (operation_name_layout o.name) (variable_definitions_layout style o.variables)
    (directives_layout style 0 o.directives) (selection_set_layout style 0 o.selected)))

pub returns-clause-well_formed : goal.returns-clause-well_formed
returns-clause-well_formed g c =
    let variables = rw c.deref.ensures.value at c.in_ok-write_variable_definitions.ensures.well_formed in
    let directives = rw c.deref-2.ensures.value at c.in_ok-write_directives.ensures.well_formed in
    on_ok_weaker c.write_selection_set.result (λ set. (variables, directives, set)) c.write_selection_set.ensures.well_formed
