use Rattle.std.proofs.Common.{refl, sym, ◌∙◌}
use Rattle.graphql_core.proofs.{adds_reserved, begun, took, past, after, fails_last, lacks, whole, fewer}
use Rattle.graphql_schema.specs.{enum_value_symbol, enum_value_view, tables}
use Rattle.graphql_schema.proofs.{lifted, stops_lifted, described_at, same_enum_value, readable}
use Rattle.graphql_schema.proofs.read.enums.EnumValueListElements.read.Goals as goal

pub returns-in_err-name-clause-reads : goal.returns-in_err-name-clause-reads
returns-in_err-name-clause-reads g c =
    let described = after (begun enum_value_symbol (λ x. refl)) c.in_ok-description.ensures in
    lacks _ _ _ _ _ described c.in_err-name.ensures c.from_residual-in_err-name.ensures.1

pub returns-in_err-directives-clause-reads : goal.returns-in_err-directives-clause-reads
returns-in_err-directives-clause-reads g c =
    let named = past (after (begun enum_value_symbol (λ x. refl)) c.in_ok-description.ensures) (took c.in_ok-name.ensures.1 refl) in
    fails_last _ _ _ _ named (stops_lifted _ refl refl _ _ _ c.in_err-directives.ensures) c.from_residual-in_err-directives.ensures.1

pub returns-clause-reads : goal.returns-clause-reads
returns-clause-reads g c =
    let bytes = g.S.Names.Names.bytes in
    let old = g.S.TokenSource.items c.args.source.now in
    let (d, described, keyworded) = c.in_ok-description.ensures in
    let (n, named, spelled) = c.in_ok-name.ensures in
    let (ds, directed, directs) = lifted refl refl c.in_ok-directives.ensures in
    whole (past (past (begun enum_value_symbol (λ x. refl)) described) (took named refl)) directed
    (adds_reserved (enum_value_view bytes) _ _ _ _ _ c.in_ok-reserve.ensures.items c.push_reserved.ensures.items
    (same_enum_value (c.position-position.ensures ∙ sym (described_at old _ _ d n described named)) keyworded spelled
    directs))

pub returns-clause-shorter : goal.returns-clause-shorter
unfolding tables
returns-clause-shorter g c = fewer readable.ll1 refl (returns-clause-reads g c)
