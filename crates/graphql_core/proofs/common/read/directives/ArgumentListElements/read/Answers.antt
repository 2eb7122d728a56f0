use Rattle.std.proofs.Common.{refl, sym, ap₂}
use Rattle.graphql_core.specs.{argument_symbol, argument_view, tables}
use Rattle.graphql_core.proofs.{adds_reserved, begun, took, past, whole, fails_last, fewer, lacks, shared_ll1}
use Rattle.graphql_core.proofs.common.read.directives.ArgumentListElements.read.Goals as goal

pub returns-in_err-name-clause-reads : goal.returns-in_err-name-clause-reads
returns-in_err-name-clause-reads g c = lacks _ _ _ _ _ (begun argument_symbol (λ x. refl)) c.in_err-name.ensures c.from_residual.ensures.1

pub returns-in_err-expect_punctuator-clause-reads : goal.returns-in_err-expect_punctuator-clause-reads
returns-in_err-expect_punctuator-clause-reads g c =
    let named = past (begun argument_symbol (λ x. refl)) (took c.in_ok-name.ensures.1 refl) in
    lacks _ _ _ _ _ named c.in_err-expect_punctuator.ensures c.from_residual-in_err-expect_punctuator.ensures.1

pub returns-in_err-value-clause-reads : goal.returns-in_err-value-clause-reads
returns-in_err-value-clause-reads g c =
    let colon = past (past (begun argument_symbol (λ x. refl)) (took c.in_ok-name.ensures.1 refl)) (took c.in_ok-expect_punctuator.ensures.1 refl) in
    fails_last _ _ _ _ colon c.in_err-value.ensures c.from_residual-in_err-value.ensures.1

pub returns-clause-reads : goal.returns-clause-reads
returns-clause-reads g c =
    let (n, named, spelled) = c.in_ok-name.ensures in
    let (m, colon, until) = c.in_ok-expect_punctuator.ensures in
    let (x, takes, view) = c.in_ok-value.ensures in
    whole (past (past (begun argument_symbol (λ x. refl)) (took named refl)) (took colon refl)) takes
    (adds_reserved (argument_view g.S.Names.Names.bytes) _ _ _ _ _ c.in_ok-reserve.ensures.items c.push_reserved.ensures.items
    (ap₂ (λ a b. (a, b)) (sym spelled) view))

pub returns-clause-shorter : goal.returns-clause-shorter
unfolding tables
returns-clause-shorter g c = fewer shared_ll1 refl (returns-clause-reads g c)
