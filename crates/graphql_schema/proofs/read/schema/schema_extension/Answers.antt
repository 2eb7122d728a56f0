use Rattle.std.proofs.Common.{refl, sym}
use Rattle.graphql_core.proofs.{node_stops, node_lacks, node_passes, node_rejected, here, before, took, past, after, consumed, rest_stops}
use Rattle.graphql_schema.specs.{schemas, rejections}
use Rattle.graphql_schema.proofs.{readable, lifted, stops_lifted, fault_stated, none_stated}
use Rattle.graphql_schema.proofs.read.schema.schema_extension.Goals as goal

pub returns-in_err-position : goal.returns-in_err-position
returns-in_err-position g c =
    node_lacks schemas rejections _ _ _ _ _ _ _ (before here) c.in_err-position.ensures c.from_residual.ensures.1

pub returns-in_err-directives : goal.returns-in_err-directives
returns-in_err-directives g c =
    let keyword = past here (took c.in_ok-position.ensures.1 refl) in
    node_stops schemas rejections _ _ _ _ _ _ (before keyword _ _ (stops_lifted _ refl refl _ _ _ c.in_err-directives.ensures))
    c.from_residual-in_err-directives.ensures.1

pub returns-in_err-query : goal.returns-in_err-query
returns-in_err-query g c =
    let directed = after (past here (took c.in_ok-position.ensures.1 refl)) (lifted refl refl c.in_ok-directives.ensures) in
    node_stops schemas rejections _ _ _ _ _ _ (rest_stops directed _ _ c.in_err-query.ensures) c.from_residual-in_err-query.ensures.1

pub returns-in-Some : goal.returns-in-Some
returns-in-Some g c =
    let (t, taken, at) = c.in_ok-position.ensures in
    let (rs, rooted, has) = c.in_ok-query.ensures in
    let directed = after (past here (took taken refl)) (lifted refl refl c.in_ok-directives.ensures) in
    let (bad, said) = fault_stated _ _ _ _ _ c.in-Some.is at has.cause in
    node_rejected schemas rejections readable _ _ _ _ _ (consumed directed rooted) bad said

pub returns-in-None : goal.returns-in-None
returns-in-None g c =
    let (t, taken, at) = c.in_ok-position.ensures in
    let (ds, directed, added) = lifted refl refl c.in_ok-directives.ensures in
    let (rs, rooted, has) = c.in_ok-query.ensures in
    let lead = past (past here (took taken refl)) directed in
    let (good, none) = none_stated _ _ c.in-None.is has.cause in
    node_passes schemas rejections _ _ _ _ _ _ (consumed lead rooted) good
    (λ k. record {
      position = sym at k;
      directives = added k;
      query = has.query none k;
      mutation = has.mutation none k;
      subscription = has.subscription none k;
    })
