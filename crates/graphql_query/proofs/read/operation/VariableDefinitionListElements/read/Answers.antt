use Rattle.std.proofs.Common.{refl}
use Rattle.graphql_core.proofs.{adds_reserved, took, past, after, fails, fails_last, fewer, lacks, whole}
use Rattle.graphql_query.specs.{variable_definition_symbol, variable_definition_view, tables}
use Rattle.graphql_query.proofs.{same_variable_definition, begun, lifted, readable, stops_lifted}
use Rattle.graphql_query.proofs.read.operation.VariableDefinitionListElements.read.Goals as goal

pub returns-in_err-position-clause-reads : goal.returns-in_err-position-clause-reads
returns-in_err-position-clause-reads g c =
    lacks _ _ _ _ _ (begun variable_definition_symbol) c.in_err-position.ensures c.from_residual.ensures.1

pub returns-in_err-name-clause-reads : goal.returns-in_err-name-clause-reads
returns-in_err-name-clause-reads g c =
    lacks _ _ _ _ _ (past (begun variable_definition_symbol) (took c.in_ok-position.ensures.1 refl)) c.in_err-name.ensures c.from_residual-in_err-name.ensures.1

pub returns-in_err-expect_punctuator-clause-reads : goal.returns-in_err-expect_punctuator-clause-reads
returns-in_err-expect_punctuator-clause-reads g c =
    let named = past (past (begun variable_definition_symbol) (took c.in_ok-position.ensures.1 refl)) (took c.in_ok-name.ensures.1 refl) in
    lacks _ _ _ _ _ named c.in_err-expect_punctuator.ensures c.from_residual-in_err-expect_punctuator.ensures.1

pub returns-in_err-var_type-clause-reads : goal.returns-in_err-var_type-clause-reads
returns-in_err-var_type-clause-reads g c =
    let named = past (past (begun variable_definition_symbol) (took c.in_ok-position.ensures.1 refl)) (took c.in_ok-name.ensures.1 refl) in
    let colon = past named (took c.in_ok-expect_punctuator.ensures.1 refl) in
    fails _ _ _ _ colon (stops_lifted _ refl _ _ _ c.in_err-var_type.ensures) c.from_residual-in_err-var_type.ensures.1

pub returns-in_err-default_value-clause-reads : goal.returns-in_err-default_value-clause-reads
returns-in_err-default_value-clause-reads g c =
    let named = past (past (begun variable_definition_symbol) (took c.in_ok-position.ensures.1 refl)) (took c.in_ok-name.ensures.1 refl) in
    let colon = past named (took c.in_ok-expect_punctuator.ensures.1 refl) in
    fails _ _ _ _ (after colon (lifted refl c.in_ok-var_type.ensures)) (stops_lifted _ refl _ _ _ c.in_err-default_value.ensures)
    c.from_residual-in_err-default_value.ensures.1

pub returns-in_err-directives-clause-reads : goal.returns-in_err-directives-clause-reads
returns-in_err-directives-clause-reads g c =
    let named = past (past (begun variable_definition_symbol) (took c.in_ok-position.ensures.1 refl)) (took c.in_ok-name.ensures.1 refl) in
    let colon = past named (took c.in_ok-expect_punctuator.ensures.1 refl) in
    fails_last _ _ _ _ (after (after colon (lifted refl c.in_ok-var_type.ensures)) (lifted refl c.in_ok-default_value.ensures))
    (stops_lifted _ refl _ _ _ c.in_err-directives.ensures) c.from_residual-in_err-directives.ensures.1

pub returns-clause-reads : goal.returns-clause-reads
returns-clause-reads g c =
    let (d, dollar, at) = c.in_ok-position.ensures in
    let (n, named, spelled) = c.in_ok-name.ensures in
    let (m, colon, until) = c.in_ok-expect_punctuator.ensures in
    let (t, typed, seen) = lifted refl c.in_ok-var_type.ensures in
    let (v, valued, view) = lifted refl c.in_ok-default_value.ensures in
    let (ds, directed, directs) = lifted refl c.in_ok-directives.ensures in
    let colon = past (past (past (begun variable_definition_symbol) (took dollar refl)) (took named refl)) (took colon refl) in
    whole (past (past colon typed) valued) directed
    (adds_reserved (variable_definition_view g.S.Names.Names.bytes) _ _ _ _ _ c.in_ok-reserve.ensures.items c.push_reserved.ensures.items
    (same_variable_definition at spelled seen view directs))

pub returns-clause-shorter : goal.returns-clause-shorter
unfolding tables
returns-clause-shorter g c = fewer readable.ll1 refl (returns-clause-reads g c)
