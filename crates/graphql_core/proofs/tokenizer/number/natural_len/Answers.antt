use Rattle.std.proofs.Common.{◌∙◌, arith}
use Rattle.graphql_core.proofs.{natural_taken}
use Rattle.graphql_core.proofs.tokenizer.number.natural_len.Goals.{else-len-gt1-via-then-len-gt1+else-byte_at-eq48, else-len-gt1-via-else-len-gt1}
use Rattle.graphql_core.proofs.tokenizer.number.natural_len.Goals as goal

pub returns-clause-is : goal.returns-clause-is
returns-clause-is c =
    natural_taken c.args.bytes.now c.digits_len-len.result c.digits_len-len.ensures.len c.if-len-eq0.false
    (elim c.else-len-gt1.branch [
      | else-len-gt1-via-then-len-gt1+else-byte_at-eq48 w ↦ λ two zero. w.if-byte_at-eq48.false (w.byte_at.ensures ∙ zero)
      | else-len-gt1-via-else-len-gt1 w ↦ λ two. absurd (omega (arith, w.if-len-gt1.false))
    ])
