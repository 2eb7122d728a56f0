use Rattle.std.proofs.Common.{sym, ap, ◌∙◌, arith}
use Rattle.graphql_standard.specs.steps.Numbers.{number_front}
use Rattle.graphql_standard.proofs.lexical.Elements.{no_number_begins, number_begins}
use Rattle.graphql_standard.proofs.lexical.Numbers.{number_is}
use Rattle.graphql_standard.proofs.lexical.CoreNumbers.{number_boundary}
use Rattle.graphql_standard.proofs.tokenizer.element.first_number.Goals as goal

pub returns-in_err-len-clause-none : goal.returns-in_err-len-clause-none
returns-in_err-len-clause-none c =
    rw c.from_residual.ensures
    (no_number_begins c.args.source.now (ap number_front (sym c.as_bytes.ensures.value) ∙ sym c.number.ensures ∙ c.in_err-len.was))

pub split_at-requires : goal.split_at-requires
split_at-requires c =
    let found = number_is c.args.source.now c.in_ok-len.len c.in_ok-len.kind
    (ap number_front (sym c.as_bytes.ensures.value) ∙ sym c.number.ensures ∙ c.in_ok-len.was) in
    (number_boundary c.args.source.now c.in_ok-len.len c.in_ok-len.kind c.utf8.source found).1

pub returns-clause-number : goal.returns-clause-number
returns-clause-number c =
    let found = number_is c.args.source.now c.in_ok-len.len c.in_ok-len.kind
    (ap number_front (sym c.as_bytes.ensures.value) ∙ sym c.number.ensures ∙ c.in_ok-len.was) in
    number_begins c.args.source.now c.split_at.result.0.now c.split_at.result.1.now c.in_ok-len.len c.in_ok-len.kind found c.split_at.ensures.front
    c.split_at.ensures.back

pub returns-clause-shorter : goal.returns-clause-shorter
returns-clause-shorter c =
    let found = number_is c.args.source.now c.in_ok-len.len c.in_ok-len.kind
    (ap number_front (sym c.as_bytes.ensures.value) ∙ sym c.number.ensures ∙ c.in_ok-len.was) in
    let some = (number_boundary c.args.source.now c.in_ok-len.len c.in_ok-len.kind c.utf8.source found).0 in
    omega (arith, some, c.split_at.ensures.back_len)
