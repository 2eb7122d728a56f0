use Rattle.std.proofs.Common.{refl}
use Rattle.graphql_core.specs.{directive_symbol, directive_view, tables}
use Rattle.graphql_core.proofs.{adds_reserved, begun, took, past, whole, fails_last, fewer, lacks, shared_ll1}
use Rattle.graphql_core.proofs.common.read.directives.DirectiveListElements.read.Goals as goal

pub returns-in_err-position-clause-reads : goal.returns-in_err-position-clause-reads
returns-in_err-position-clause-reads g c = lacks _ _ _ _ _ (begun directive_symbol (λ x. refl)) c.in_err-position.ensures c.from_residual.ensures.1

pub returns-in_err-name-clause-reads : goal.returns-in_err-name-clause-reads
returns-in_err-name-clause-reads g c =
    let sign = past (begun directive_symbol (λ x. refl)) (took c.in_ok-position.ensures.1 refl) in
    lacks _ _ _ _ _ sign c.in_err-name.ensures c.from_residual-in_err-name.ensures.1

pub returns-in_err-arguments-clause-reads : goal.returns-in_err-arguments-clause-reads
returns-in_err-arguments-clause-reads g c =
    let named = past (past (begun directive_symbol (λ x. refl)) (took c.in_ok-position.ensures.1 refl)) (took c.in_ok-name.ensures.1 refl) in
    fails_last _ _ _ _ named c.in_err-arguments.ensures c.from_residual-in_err-arguments.ensures.1

pub returns-clause-reads : goal.returns-clause-reads
returns-clause-reads g c =
    let bytes = g.S.Names.Names.bytes in
    let (a, sign, at) = c.in_ok-position.ensures in
    let (n, named, spelled) = c.in_ok-name.ensures in
    let (x, takes, view) = c.in_ok-arguments.ensures in
    whole (past (past (begun directive_symbol (λ x. refl)) (took sign refl)) (took named refl)) takes
    (adds_reserved (directive_view bytes) _ _ _ _ _ c.in_ok-reserve.ensures.items c.push_reserved.ensures.items (rw (at, spelled, view) refl))

pub returns-clause-shorter : goal.returns-clause-shorter
unfolding tables
returns-clause-shorter g c = fewer shared_ll1 refl (returns-clause-reads g c)
