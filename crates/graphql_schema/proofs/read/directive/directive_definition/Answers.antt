use Rattle.std.proofs.Common.{refl}
use Rattle.graphql_core.proofs.{begun, took, past, after, fails, fails_last, lacks, whole}
use Rattle.graphql_schema.specs.{directive_definition_symbol}
use Rattle.graphql_schema.proofs.{same_definition}
use Rattle.graphql_schema.proofs.read.directive.directive_definition.Goals as goal

pub returns-in_err-position : goal.returns-in_err-position
returns-in_err-position g c =
    lacks _ _ _ _ _ (begun directive_definition_symbol (λ x. refl)) c.in_err-position.ensures c.from_residual.ensures.1

pub returns-in_err-expect_punctuator : goal.returns-in_err-expect_punctuator
returns-in_err-expect_punctuator g c =
    let keyword = past (begun directive_definition_symbol (λ x. refl)) (took c.in_ok-position.ensures.1 refl) in
    lacks _ _ _ _ _ keyword c.in_err-expect_punctuator.ensures c.from_residual-in_err-expect_punctuator.ensures.1

pub returns-in_err-name : goal.returns-in_err-name
returns-in_err-name g c =
    let keyword = past (begun directive_definition_symbol (λ x. refl)) (took c.in_ok-position.ensures.1 refl) in
    lacks _ _ _ _ _ (past keyword (took c.in_ok-expect_punctuator.ensures.1 refl)) c.in_err-name.ensures c.from_residual-in_err-name.ensures.1

pub returns-in_err-arguments : goal.returns-in_err-arguments
returns-in_err-arguments g c =
    let keyword = past (begun directive_definition_symbol (λ x. refl)) (took c.in_ok-position.ensures.1 refl) in
    let named = past (past keyword (took c.in_ok-expect_punctuator.ensures.1 refl)) (took c.in_ok-name.ensures.1 refl) in
    fails _ _ _ _ named c.in_err-arguments.ensures c.from_residual-in_err-arguments.ensures.1

pub returns-in_err-repeatable : goal.returns-in_err-repeatable
returns-in_err-repeatable g c =
    let keyword = past (begun directive_definition_symbol (λ x. refl)) (took c.in_ok-position.ensures.1 refl) in
    let named = past (past keyword (took c.in_ok-expect_punctuator.ensures.1 refl)) (took c.in_ok-name.ensures.1 refl) in
    let defined = after named c.in_ok-arguments.ensures in
    fails _ _ _ _ defined c.in_err-repeatable.ensures c.from_residual-in_err-repeatable.ensures.1

pub returns-in_err-expect_keyword : goal.returns-in_err-expect_keyword
returns-in_err-expect_keyword g c =
    let keyword = past (begun directive_definition_symbol (λ x. refl)) (took c.in_ok-position.ensures.1 refl) in
    let named = past (past keyword (took c.in_ok-expect_punctuator.ensures.1 refl)) (took c.in_ok-name.ensures.1 refl) in
    let repeats = after (after named c.in_ok-arguments.ensures) c.in_ok-repeatable.ensures in
    lacks _ _ _ _ _ repeats c.in_err-expect_keyword.ensures c.from_residual-in_err-expect_keyword.ensures.1

pub returns-in_err-locations : goal.returns-in_err-locations
returns-in_err-locations g c =
    let keyword = past (begun directive_definition_symbol (λ x. refl)) (took c.in_ok-position.ensures.1 refl) in
    let named = past (past keyword (took c.in_ok-expect_punctuator.ensures.1 refl)) (took c.in_ok-name.ensures.1 refl) in
    let repeats = after (after named c.in_ok-arguments.ensures) c.in_ok-repeatable.ensures in
    let on = past repeats (took c.in_ok-expect_keyword.ensures.1 refl) in
    fails_last _ _ _ _ on c.in_err-locations.ensures c.from_residual-in_err-locations.ensures.1

pub returns : goal.returns
returns g c =
    let (w, begins, at) = c.in_ok-position.ensures in
    let (n, named, spelled) = c.in_ok-name.ensures in
    let (vs, valued, view) = c.in_ok-arguments.ensures in
    let (r, repeats, is) = c.in_ok-repeatable.ensures in
    let (ls, located, are) = c.in_ok-locations.ensures in
    let sign = past (past (begun directive_definition_symbol (λ x. refl)) (took begins refl)) (took c.in_ok-expect_punctuator.ensures.1 refl) in
    let on = past (past (past (past sign (took named refl)) valued) repeats) (took c.in_ok-expect_keyword.ensures.1 refl) in
    whole on located (same_definition at spelled view is are)
