use Rattle.std.proofs.Common.{◌≡◌, sym, ◌∙◌}
use Rattle.graphql_core.specs.{front, number}
use Rattle.graphql_core.proofs.{string_begins, number_begins, number_is, number_flat}
use Rattle.graphql_core.proofs.tokenizer.piece.fast_value.Goals as goal

pub returns-then-byte-eq34-clause-is : goal.returns-then-byte-eq34-clause-is
returns-then-byte-eq34-clause-is c =
    rw (c.requires.whole, c.if-byte-eq34.true) (string_begins c.args.rest.now ∙ c.in_ok-len.ensures.is)

pub returns-then-starts_number-clause-is : goal.returns-then-starts_number-clause-is
returns-then-starts_number-clause-is c =
    let front_is : front c.args.bytes.now ≡ number c.args.bytes.now = rw c.requires.whole
    (number_begins c.args.byte c.args.rest.now (sym c.starts_number.ensures ∙ c.if-starts_number.true)) in
    number_is c.args.bytes.now c.plain_number.result front_is c.plain_number.ensures.is

pub returns-then-starts_number-clause-flat : goal.returns-then-starts_number-clause-flat
returns-then-starts_number-clause-flat c =
    let front_is : front c.args.bytes.now ≡ number c.args.bytes.now = rw c.requires.whole
    (number_begins c.args.byte c.args.rest.now (sym c.starts_number.ensures ∙ c.if-starts_number.true)) in
    number_flat c.args.bytes.now c.plain_number.result front_is c.plain_number.ensures.is c.plain_number.ensures.kind
