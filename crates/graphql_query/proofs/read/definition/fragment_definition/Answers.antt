use Rattle.std.proofs.Common.{refl}
use Rattle.graphql_core.proofs.{took, past, after, fails, fails_last, lacks, whole}
use Rattle.graphql_query.specs.{fragment_definition_symbol}
use Rattle.graphql_query.proofs.{begun, lifted, stops_lifted, same_fragment_definition}
use Rattle.graphql_query.proofs.read.definition.fragment_definition.Goals as goal

pub returns-in_err-position : goal.returns-in_err-position
returns-in_err-position g c =
    lacks _ _ _ _ _ (begun fragment_definition_symbol) c.in_err-position.ensures c.from_residual.ensures.1

pub returns-in_err-name : goal.returns-in_err-name
returns-in_err-name g c =
    let word = past (begun fragment_definition_symbol) (took c.in_ok-position.ensures.1 refl) in
    lacks _ _ _ _ _ word c.in_err-name.ensures c.from_residual-in_err-name.ensures.1

pub returns-in_err-type_condition : goal.returns-in_err-type_condition
returns-in_err-type_condition g c =
    let named = past (past (begun fragment_definition_symbol) (took c.in_ok-position.ensures.1 refl)) (took c.in_ok-name.ensures.1 refl) in
    fails _ _ _ _ named c.in_err-type_condition.ensures c.from_residual-in_err-type_condition.ensures.1

pub returns-in_err-directives : goal.returns-in_err-directives
returns-in_err-directives g c =
    let named = past (past (begun fragment_definition_symbol) (took c.in_ok-position.ensures.1 refl)) (took c.in_ok-name.ensures.1 refl) in
    fails _ _ _ _ (after named c.in_ok-type_condition.ensures) (stops_lifted _ refl _ _ _ c.in_err-directives.ensures)
    c.from_residual-in_err-directives.ensures.1

pub returns-in_err-selection_set : goal.returns-in_err-selection_set
returns-in_err-selection_set g c =
    let named = past (past (begun fragment_definition_symbol) (took c.in_ok-position.ensures.1 refl)) (took c.in_ok-name.ensures.1 refl) in
    fails_last _ _ _ _ (after (after named c.in_ok-type_condition.ensures) (lifted refl c.in_ok-directives.ensures))
    c.in_err-selection_set.ensures.reads c.from_residual-in_err-selection_set.ensures.1

pub returns : goal.returns
returns g c =
    let (w, begins, at) = c.in_ok-position.ensures in
    let (n, named, spelled) = c.in_ok-name.ensures in
    let (o, on, applies) = c.in_ok-type_condition.ensures in
    let (d, directed, directs) = lifted refl c.in_ok-directives.ensures in
    let (s, selected, selects) = c.in_ok-selection_set.ensures.reads in
    whole (past (past (past (past (begun fragment_definition_symbol) (took begins refl)) (took named refl)) on) directed) selected
    (same_fragment_definition at spelled applies directs selects)
