use Rattle.std.proofs.Common.{sym, ◌∙◌, subst, arith}
use Rattle.graphql_core.proofs.{as_error, from_stream, exit, parse_failure}
use Rattle.graphql_core.specs.{past_bound, ReturnsUnlessOutOfMemory, IsErrorOf, ParseFailure, Items}
use Rattle.graphql_query.specs.{one_definition, BeginsWith}
use Rattle.graphql_query.proofs.{found, one_first, earlier_definition, shorter, other_definitions, other_rest, other_tokens}
use Rattle.graphql_query.proofs.consume.consume_definition.Goals as goal

-- ---- too long

pub returns-then-source-gt-MAX_LENGTH-clause-first_error : goal.returns-then-source-gt-MAX_LENGTH-clause-first_error
returns-then-source-gt-MAX_LENGTH-clause-first_error g c =
    subst (λ (r : ParseFailure). IsErrorOf one_definition c.args.source.now r) (sym (c.from.ensures ∙ c.text_too_long.ensures)) (past_bound (omega arith))

-- ---- an error

pub returns-in_err-definition-clause-complete : goal.returns-in_err-definition-clause-complete
returns-in_err-definition-clause-complete g c r bound (items, has, x, others, begins, means, rest) =
    subst (ReturnsUnlessOutOfMemory _ r) (as_error _ _ c.from_residual.ensures.1) (c.in_err-definition.ensures.complete x others
    (subst (λ (i : Items). BeginsWith i.tokens x others) (sym (c.new-cursor.ensures items has)) begins))

pub returns-in_err-definition-clause-document : goal.returns-in_err-definition-clause-document
returns-in_err-definition-clause-document g c d ds bound h =
    let (rest, first, others) = other_definitions c.args.source.now d ds h in
    (rest, others, returns-in_err-definition-clause-complete g c (d, rest) bound first)

pub returns-in_err-definition-clause-earlier : goal.returns-in_err-definition-clause-earlier
returns-in_err-definition-clause-earlier g c r bound h =
    let (none, is) = earlier_definition c.args.source.now r h in
    (none, returns-in_err-definition-clause-complete g c r bound is)

pub returns-in_err-definition-clause-first_error : goal.returns-in_err-definition-clause-first_error
returns-in_err-definition-clause-first_error g c =
    let e = c.in_err-definition.field-0.0 in
    exit _ e _ c.from_residual.ensures.1
    (parse_failure one_definition c.args.source.now _ e (omega arith) (from_stream _ _ c.new-cursor.ensures) c.in_err-definition.ensures.first_error)

-- ---- the first definition

pub returns-clause-first : goal.returns-clause-first
returns-clause-first g c =
    found c.args.source.now _ _ _ c.position.result (from_stream _ _ c.new-cursor.ensures) c.in_ok-definition.ensures.takes c.position.ensures _
    c.text_from-rest.ensures

pub returns-clause-shorter : goal.returns-clause-shorter
returns-clause-shorter g c = shorter c.args.source.now _ _ (returns-clause-first g c)

pub returns-clause-complete : goal.returns-clause-complete
returns-clause-complete g c r bound h = one_first c.args.source.now _ r (returns-clause-first g c) h

pub returns-clause-earlier : goal.returns-clause-earlier
returns-clause-earlier g c r bound h =
    let (none, is) = earlier_definition c.args.source.now r h in
    (none, one_first c.args.source.now _ r (returns-clause-first g c) is)

pub returns-clause-document : goal.returns-clause-document
returns-clause-document g c d ds bound h =
    let (rest, first, others) = other_definitions c.args.source.now d ds h in
    (rest, others, returns-clause-complete g c (d, rest) bound first)

pub returns-clause-other_rest : goal.returns-clause-other_rest
returns-clause-other_rest g c taken other whole = other_rest c.args.source.now _ _ taken other (returns-clause-first g c) whole

pub returns-clause-other_tokens : goal.returns-clause-other_tokens
returns-clause-other_tokens g c x taken other first whole = other_tokens c.args.source.now x _ taken other first whole
