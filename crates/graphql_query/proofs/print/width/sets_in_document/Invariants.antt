use Rattle.std.proofs.Common.{◌≡◌, ◌-◌, ◌^◌, min, max, drop}
use Rattle.graphql_core.specs.{most}
use Rattle.graphql_query.specs.{definitions_view, definition_depth, in_sets}
use Rattle.graphql_query.proofs.print.width.sets_in_document.Given as goal

abbrev pub invariant-definitions : goal.invariant-definitions
invariant-definitions g l =
    let left = definitions_view g.N.Names.bytes (drop l.definition-index l.definition-items) in
    let all = definitions_view g.N.Names.bytes l.definition-items in
    max l.most (min (most (definition_depth in_sets) left) (2 ^ 64 - 1)) ≡ min (most (definition_depth in_sets) all) (2 ^ 64 - 1)
