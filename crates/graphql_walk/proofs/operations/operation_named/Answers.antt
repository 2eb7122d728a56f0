use Rattle.std.proofs.Common.{◌∙◌, ◌+◌, arith, ap, sym, drop}
use Rattle.graphql_query.specs.Tree.{definition_view, definitions_view}
use Rattle.graphql_walk.specs.{first_definition, is_operation_named}
use Rattle.graphql_walk.proofs.{definition_here, next_one, found_one}
use Rattle.graphql_walk.proofs.operations.operation_named.Goals as goal

pub returns-in-Some : goal.returns-in-Some
returns-in-Some g c =
    let bytes = g.N.Names.bytes in
    let l = c.definitions in
    let test = is_operation_named c.args.name.now in
    let first = definition_view bytes c.definition-item.result in
    let others = first_definition test (definitions_view bytes (drop (l.definition-index + 1) c.args.definitions.now)) in
    let here = definition_here (definition_view bytes) c.args.definitions.now l.definition-index c.definition-item.result (omega arith) c.definition-item.is in
    sym (found_one first others (test first) _ c.in-Some.ensures) ∙ sym (ap (λ ds. first_definition test ds) here) ∙ l.invariant

pub definitions-preserved : goal.definitions-preserved
definitions-preserved g c =
    let bytes = g.N.Names.bytes in
    let l = c.definitions in
    let test = is_operation_named c.args.name.now in
    let first = definition_view bytes c.definition-item.result in
    let others = first_definition test (definitions_view bytes (drop (l.definition-index + 1) c.args.definitions.now)) in
    let here = definition_here (definition_view bytes) c.args.definitions.now l.definition-index c.definition-item.result (omega arith) c.definition-item.is in
    sym (next_one first others (test first) c.in_default.ensures) ∙ sym (ap (λ ds. first_definition test ds) here) ∙ l.invariant
