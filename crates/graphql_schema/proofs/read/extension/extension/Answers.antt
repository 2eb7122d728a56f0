use Rattle.std.proofs.Common.{◌∙◌, Some, ap, refl, sym}
use Rattle.graphql_core.specs.{Place, empty_extension}
use Rattle.graphql_core.proofs.{node_stops, node_lacks, node_passes, node_rejected, here, before, past, took, consumed, rest_stops}
use Rattle.graphql_schema.specs.{extension_symbol, schemas, SchemaTree, BodyTree, schema_extension, extension, adds_something, adds_to_schema, rejections}
use Rattle.graphql_schema.proofs.{readable, of_schema, of_body, node_halts, none_extended, directive_extended, not_extended, body_means}
use Rattle.graphql_schema.proofs.read.extension.extension.Goals as goal

pub returns-in_err-expect_keyword : goal.returns-in_err-expect_keyword
returns-in_err-expect_keyword g c =
    node_lacks schemas rejections _ _ _ _ _ _ _ (before here) c.in_err-expect_keyword.ensures c.from_residual.ensures.1

-- ---- of the schema

pub returns-in_err-extension-in-Some-Schema : goal.returns-in_err-extension-in-Some-Schema
returns-in_err-extension-in-Some-Schema g c =
    let lead = of_schema (past here (took c.in_ok-expect_keyword.ensures.1 refl)) (rw c.in-Some-Schema.field-0-is at c.in-Some-Schema.ensures) in
    node_halts rejections _ _ _ _ _ _ _ _ lead c.in_err-extension-in-Some-Schema.ensures c.from_residual-in_err-extension-in-Some-Schema.ensures.1

pub returns-then-not-adds_to_schema : goal.returns-then-not-adds_to_schema
returns-then-not-adds_to_schema g c =
    let (x, takes, is) = c.in_ok-extension-in-Some-Schema.ensures.gives in
    let lead = of_schema (past here (took c.in_ok-expect_keyword.ensures.1 refl)) (rw c.in-Some-Schema.field-0-is at c.in-Some-Schema.ensures) in
    let bad = ap adds_to_schema (sym is) ∙ sym c.adds_to_schema.ensures ∙ c.if-not-adds_to_schema.true in
    node_rejected schemas rejections readable _ _ _ _ _ (consumed lead takes) bad
    (ap (λ (p : Place). Some (record { cause = empty_extension; place = p })) (sym (ap (λ (s : SchemaTree). s.position) is)))

pub returns-else-not-adds_to_schema : goal.returns-else-not-adds_to_schema
returns-else-not-adds_to_schema g c =
    let (x, takes, is) = c.in_ok-extension-in-Some-Schema.ensures.gives in
    let lead = of_schema (past here (took c.in_ok-expect_keyword.ensures.1 refl)) (rw c.in-Some-Schema.field-0-is at c.in-Some-Schema.ensures) in
    node_passes schemas rejections _ _ _ _ _ _ (consumed lead takes)
    (ap adds_to_schema (sym is) ∙ sym c.adds_to_schema.ensures ∙ c.if-not-adds_to_schema.false) (ap schema_extension is)

-- ---- of a type

pub returns-in_err-body-in-Some-OfType : goal.returns-in_err-body-in-Some-OfType
returns-in_err-body-in-Some-OfType g c =
    let seen = rw c.in-Some-OfType.field-0-is at c.in-Some-OfType.ensures in
    let lead = of_body c.in-Some-OfType.kind (past here (took c.in_ok-expect_keyword.ensures.1 refl)) seen in
    node_stops schemas rejections _ _ _ _ _ _ (rest_stops lead _ _ c.in_err-body-in-Some-OfType.ensures) c.from_residual-in_err-body-in-Some-OfType.ensures.1

pub returns-then-not-adds_something : goal.returns-then-not-adds_something
returns-then-not-adds_something g c =
    let (x, takes, is) = c.in_ok-body-in-Some-OfType.ensures in
    let kind = c.in-Some-OfType.kind in
    let lead = of_body kind (past here (took c.in_ok-expect_keyword.ensures.1 refl)) (rw c.in-Some-OfType.field-0-is at c.in-Some-OfType.ensures) in
    let same = is ∙ body_means kind x in
    let bad = ap adds_something (sym same) ∙ sym c.adds_something.ensures ∙ c.if-not-adds_something.true in
    node_rejected schemas rejections readable _ _ _ _ _ (consumed lead takes) bad
    (ap (λ (p : Place). Some (record { cause = empty_extension; place = p })) (sym (ap (λ (b : BodyTree). b.position) same)))

pub returns-else-not-adds_something : goal.returns-else-not-adds_something
returns-else-not-adds_something g c =
    let (x, takes, is) = c.in_ok-body-in-Some-OfType.ensures in
    let kind = c.in-Some-OfType.kind in
    let lead = of_body kind (past here (took c.in_ok-expect_keyword.ensures.1 refl)) (rw c.in-Some-OfType.field-0-is at c.in-Some-OfType.ensures) in
    let same = is ∙ body_means kind x in
    node_passes schemas rejections _ _ _ _ _ _ (consumed lead takes)
    (ap adds_something (sym same) ∙ sym c.adds_something.ensures ∙ c.if-not-adds_something.false) (c.into_extension.ensures ∙ ap extension same)

-- ---- of neither

pub returns-in-Some-Directive : goal.returns-in-Some-Directive
returns-in-Some-Directive g c =
    let seen = rw c.in-Some-Directive.field-0-is at c.in-Some-Directive.ensures in
    node_stops schemas rejections extension_symbol _ _ _ _ _ (not_extended c.in_ok-expect_keyword.ensures.1 (directive_extended _ seen)) refl

pub returns-in-None : goal.returns-in-None
returns-in-None g c =
    let none = rw c.in-None.is at c.peek_keyword.ensures in
    node_stops schemas rejections extension_symbol _ _ _ _ _ (not_extended c.in_ok-expect_keyword.ensures.1 (none_extended _ none)) refl
