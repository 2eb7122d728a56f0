use Rattle.std.proofs.Common.{[], refl, sym}
use Rattle.graphql_core.proofs.{node_stops, node_lacks, node_passes, node_rejected, here, before, took, past, after, consumed, rest_stops}
use Rattle.graphql_schema.specs.{schemas, rejections}
use Rattle.graphql_schema.proofs.{readable, lifted, stops_lifted, fault_stated, none_stated}
use Rattle.graphql_schema.proofs.read.schema.schema_definition.Goals as goal

pub returns-in_err-position : goal.returns-in_err-position
returns-in_err-position g c =
    node_lacks schemas rejections _ _ _ _ _ _ _ (before here) c.in_err-position.ensures c.from_residual.ensures.1

pub returns-in_err-directives : goal.returns-in_err-directives
returns-in_err-directives g c =
    let keyword = past here (took c.in_ok-position.ensures.1 refl) in
    node_stops schemas rejections _ _ _ _ _ _ (before keyword _ _ (stops_lifted _ refl refl _ _ _ c.in_err-directives.ensures))
    c.from_residual-in_err-directives.ensures.1

pub returns-in_err-expect_punctuator : goal.returns-in_err-expect_punctuator
returns-in_err-expect_punctuator g c =
    let directed = after (past here (took c.in_ok-position.ensures.1 refl)) (lifted refl refl c.in_ok-directives.ensures) in
    node_lacks schemas rejections _ _ _ _ _ _ _ (before directed) c.in_err-expect_punctuator.ensures c.from_residual-in_err-expect_punctuator.ensures.1

pub returns-in_err-root_types : goal.returns-in_err-root_types
returns-in_err-root_types g c =
    let directed = after (past here (took c.in_ok-position.ensures.1 refl)) (lifted refl refl c.in_ok-directives.ensures) in
    let opened = past directed (took c.in_ok-expect_punctuator.ensures.1 refl) in
    node_stops schemas rejections _ _ _ _ _ _ (before opened _ _ c.in_err-root_types.ensures) c.from_residual-in_err-root_types.ensures.1

pub returns-in_err-expect_punctuator-2 : goal.returns-in_err-expect_punctuator-2
returns-in_err-expect_punctuator-2 g c =
    let directed = after (past here (took c.in_ok-position.ensures.1 refl)) (lifted refl refl c.in_ok-directives.ensures) in
    let rooted = after (past directed (took c.in_ok-expect_punctuator.ensures.1 refl)) c.in_ok-root_types.ensures in
    node_lacks schemas rejections _ _ _ _ _ _ _ (rest_stops rooted) c.in_err-expect_punctuator-2.ensures c.from_residual-in_err-expect_punctuator-2.ensures.1

pub returns-in-Some : goal.returns-in-Some
returns-in-Some g c =
    let (t, taken, at) = c.in_ok-position.ensures in
    let (rs, rooted, has) = c.in_ok-root_types.ensures in
    let directed = after (past here (took taken refl)) (lifted refl refl c.in_ok-directives.ensures) in
    let lead = past (past directed (took c.in_ok-expect_punctuator.ensures.1 refl)) rooted in
    let are = has [] c.no_roots-roots.ensures in
    let (bad, said) = fault_stated _ _ _ _ _ c.in-Some.is at are.cause in
    node_rejected schemas rejections readable _ _ _ _ _ (consumed lead (took c.in_ok-expect_punctuator-2.ensures.1 refl)) bad said

pub returns-in-None : goal.returns-in-None
returns-in-None g c =
    let (t, taken, at) = c.in_ok-position.ensures in
    let (ds, directed, added) = lifted refl refl c.in_ok-directives.ensures in
    let (rs, rooted, has) = c.in_ok-root_types.ensures in
    let lead = past (past (past (past here (took taken refl)) directed) (took c.in_ok-expect_punctuator.ensures.1 refl)) rooted in
    let are = has [] c.no_roots-roots.ensures in
    let (good, none) = none_stated _ _ c.in-None.is are.cause in
    node_passes schemas rejections _ _ _ _ _ _ (consumed lead (took c.in_ok-expect_punctuator-2.ensures.1 refl)) good
    (λ k. record {
      position = sym at k;
      directives = added k;
      query = are.query none k;
      mutation = are.mutation none k;
      subscription = are.subscription none k;
    })
