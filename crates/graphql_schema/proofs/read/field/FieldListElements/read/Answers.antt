use Rattle.std.proofs.Common.{refl, sym, ◌∙◌}
use Rattle.graphql_core.proofs.{adds_reserved, begun, took, past, after, fails, fails_last, lacks, whole, fewer}
use Rattle.graphql_schema.specs.{field_symbol, field_view, tables}
use Rattle.graphql_schema.proofs.{lifted, stops_lifted, described_at, same_field, readable}
use Rattle.graphql_schema.proofs.read.field.FieldListElements.read.Goals as goal

pub returns-in_err-name-clause-reads : goal.returns-in_err-name-clause-reads
returns-in_err-name-clause-reads g c =
    let described = after (begun field_symbol (λ x. refl)) c.in_ok-description.ensures in
    lacks _ _ _ _ _ described c.in_err-name.ensures c.from_residual-in_err-name.ensures.1

pub returns-in_err-arguments-clause-reads : goal.returns-in_err-arguments-clause-reads
returns-in_err-arguments-clause-reads g c =
    let named = past (after (begun field_symbol (λ x. refl)) c.in_ok-description.ensures) (took c.in_ok-name.ensures.1 refl) in
    fails _ _ _ _ named c.in_err-arguments.ensures c.from_residual-in_err-arguments.ensures.1

pub returns-in_err-expect_punctuator-clause-reads : goal.returns-in_err-expect_punctuator-clause-reads
returns-in_err-expect_punctuator-clause-reads g c =
    let named = past (after (begun field_symbol (λ x. refl)) c.in_ok-description.ensures) (took c.in_ok-name.ensures.1 refl) in
    let defined = after named c.in_ok-arguments.ensures in
    lacks _ _ _ _ _ defined c.in_err-expect_punctuator.ensures c.from_residual-in_err-expect_punctuator.ensures.1

pub returns-in_err-field_type-clause-reads : goal.returns-in_err-field_type-clause-reads
returns-in_err-field_type-clause-reads g c =
    let named = past (after (begun field_symbol (λ x. refl)) c.in_ok-description.ensures) (took c.in_ok-name.ensures.1 refl) in
    let colon = past (after named c.in_ok-arguments.ensures) (took c.in_ok-expect_punctuator.ensures.1 refl) in
    fails _ _ _ _ colon (stops_lifted _ refl refl _ _ _ c.in_err-field_type.ensures) c.from_residual-in_err-field_type.ensures.1

pub returns-in_err-directives-clause-reads : goal.returns-in_err-directives-clause-reads
returns-in_err-directives-clause-reads g c =
    let named = past (after (begun field_symbol (λ x. refl)) c.in_ok-description.ensures) (took c.in_ok-name.ensures.1 refl) in
    let colon = past (after named c.in_ok-arguments.ensures) (took c.in_ok-expect_punctuator.ensures.1 refl) in
    let typed = after colon (lifted refl refl c.in_ok-field_type.ensures) in
    fails_last _ _ _ _ typed (stops_lifted _ refl refl _ _ _ c.in_err-directives.ensures) c.from_residual-in_err-directives.ensures.1

pub returns-clause-reads : goal.returns-clause-reads
returns-clause-reads g c =
    let bytes = g.S.Names.Names.bytes in
    let old = g.S.TokenSource.items c.args.source.now in
    let (d, described, keyworded) = c.in_ok-description.ensures in
    let (n, named, spelled) = c.in_ok-name.ensures in
    let (vs, defined, defines) = c.in_ok-arguments.ensures in
    let (t, typed, seen) = lifted refl refl c.in_ok-field_type.ensures in
    let (ds, directed, directs) = lifted refl refl c.in_ok-directives.ensures in
    let before = past (past (past (begun field_symbol (λ x. refl)) described) (took named refl)) defined in
    whole (past (past before (took c.in_ok-expect_punctuator.ensures.1 refl)) typed) directed
    (adds_reserved (field_view bytes) _ _ _ _ _ c.in_ok-reserve.ensures.items c.push_reserved.ensures.items
    (same_field (c.position-position.ensures ∙ sym (described_at old _ _ d n described named)) keyworded spelled
    defines seen directs))

pub returns-clause-shorter : goal.returns-clause-shorter
unfolding tables
returns-clause-shorter g c = fewer readable.ll1 refl (returns-clause-reads g c)
