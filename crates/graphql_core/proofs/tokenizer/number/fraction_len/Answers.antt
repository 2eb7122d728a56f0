use Rattle.graphql_core.proofs.{fraction_taken}
use Rattle.graphql_core.proofs.tokenizer.number.fraction_len.Goals as goal

pub returns-clause-is : goal.returns-clause-is
returns-clause-is c =
    rw c.in_ok-byte.ensures.cases.0
    (fraction_taken c.in_ok-byte.byte.now c.in_ok-byte.rest.now c.digits_len-len.result c.if-byte-ne46.false c.digits_len-len.ensures.len c.if-len-eq0.false)
