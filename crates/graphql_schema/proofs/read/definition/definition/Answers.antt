use Rattle.std.proofs.Common.{refl, sym, ap, ap₂, ◌∙◌}
use Rattle.graphql_core.proofs.{Stops-before, reads_led, halts_led, stops_led, whole}
use Rattle.graphql_schema.specs.{schemas, schema, type_definition, directive, rejections}
use Rattle.graphql_schema.proofs.{an_extension, no_extension, a_description, a_schema, a_directive, a_type}
use Rattle.graphql_schema.proofs.{no_keyword, with_description, directive_means, body_means}
use Rattle.graphql_schema.proofs.read.definition.definition.Goals as goal

pub returns-then-sees_keyword : goal.returns-then-sees_keyword
returns-then-sees_keyword g c =
    let led = an_extension _ (sym c.sees_keyword.ensures ∙ c.if-sees_keyword.true) in
    reads_led schemas rejections _ _ _ _ _ _ led (λ v x is. is) c.extension.ensures

pub returns-in_err-description : goal.returns-in_err-description
returns-in_err-description g c =
    let led = no_extension _ (sym c.sees_keyword.ensures ∙ c.if-sees_keyword.false) in
    stops_led schemas rejections _ _ _ _ _ led (Stops-before _ _ _ _ _ _ c.in_err-description.ensures) c.from_residual.ensures.1

-- ---- a schema

pub returns-in_err-schema-in-Some-Schema : goal.returns-in_err-schema-in-Some-Schema
returns-in_err-schema-in-Some-Schema g c =
    let other = sym c.sees_keyword.ensures ∙ c.if-sees_keyword.false in
    let led = a_schema other c.in_ok-description.ensures.1 (rw c.in-Some-Schema.field-0-is at c.in-Some-Schema.ensures) in
    halts_led schemas rejections _ _ _ _ _ _ _ led c.in_err-schema-in-Some-Schema.ensures c.from_residual-in_err-schema-in-Some-Schema.ensures.1

pub returns-in_ok-schema-in-Some-Schema : goal.returns-in_ok-schema-in-Some-Schema
returns-in_ok-schema-in-Some-Schema g c =
    let (d, described, says) = c.in_ok-description.ensures in
    let (x, taken, is) = c.in_ok-schema-in-Some-Schema.ensures.gives in
    let led = a_schema (sym c.sees_keyword.ensures ∙ c.if-sees_keyword.false) described (rw c.in-Some-Schema.field-0-is at c.in-Some-Schema.ensures) in
    record { gives = whole led taken (ap₂ schema says is); says = tt }

-- ---- a type

pub returns-in_err-body-in-Some-OfType : goal.returns-in_err-body-in-Some-OfType
returns-in_err-body-in-Some-OfType g c =
    let other = sym c.sees_keyword.ensures ∙ c.if-sees_keyword.false in
    let led = a_type other c.in_ok-description.ensures.1 c.in-Some-OfType.kind (rw c.in-Some-OfType.field-0-is at c.in-Some-OfType.ensures) in
    stops_led schemas rejections _ _ _ _ _ led c.in_err-body-in-Some-OfType.ensures c.from_residual-in_err-body-in-Some-OfType.ensures.1

pub returns-in_ok-body-in-Some-OfType : goal.returns-in_ok-body-in-Some-OfType
returns-in_ok-body-in-Some-OfType g c =
    let (d, described, says) = c.in_ok-description.ensures in
    let (x, taken, is) = c.in_ok-body-in-Some-OfType.ensures in
    let kind = c.in-Some-OfType.kind in
    let led = a_type (sym c.sees_keyword.ensures ∙ c.if-sees_keyword.false) described kind (rw c.in-Some-OfType.field-0-is at c.in-Some-OfType.ensures) in
    record { gives = whole led taken (c.into_definition.ensures ∙ ap₂ type_definition says (is ∙ body_means kind x)); says = tt }

-- ---- a directive

pub returns-in_err-definition-in-Some-Directive : goal.returns-in_err-definition-in-Some-Directive
returns-in_err-definition-in-Some-Directive g c =
    let other = sym c.sees_keyword.ensures ∙ c.if-sees_keyword.false in
    let led = a_directive other c.in_ok-description.ensures.1 (rw c.in-Some-Directive.field-0-is at c.in-Some-Directive.ensures) in
    stops_led schemas rejections _ _ _ _ _ led c.in_err-definition-in-Some-Directive.ensures c.from_residual-in_err-definition-in-Some-Directive.ensures.1

pub returns-in_ok-definition-in-Some-Directive : goal.returns-in_ok-definition-in-Some-Directive
returns-in_ok-definition-in-Some-Directive g c =
    let (d, described, says) = c.in_ok-description.ensures in
    let (x, taken, is) = c.in_ok-definition-in-Some-Directive.ensures in
    let led = a_directive (sym c.sees_keyword.ensures ∙ c.if-sees_keyword.false) described (rw c.in-Some-Directive.field-0-is at c.in-Some-Directive.ensures) in
    record { gives = whole led taken (ap directive (ap₂ with_description says is ∙ directive_means _ taken.0)); says = tt }

-- ---- none of them

pub returns-in-None : goal.returns-in-None
returns-in-None g c =
    let none = rw c.in-None.is at c.peek_keyword.ensures in
    let led = a_description (sym c.sees_keyword.ensures ∙ c.if-sees_keyword.false) c.in_ok-description.ensures.1 in
    stops_led schemas rejections _ _ _ _ _ led (no_keyword _ none) refl
