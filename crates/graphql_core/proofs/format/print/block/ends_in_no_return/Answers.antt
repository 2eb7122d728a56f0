use Rattle.std.proofs.Common.{ap, sym, ◌∙◌, not, arith}
use Rattle.graphql_core.proofs.{ends_in_return_is}
use Rattle.graphql_core.proofs.format.print.block.ends_in_no_return.Goals as goal

pub returns : goal.returns
returns c = ap not (c.ends_with.ensures.byte (omega arith) (omega arith) (λ w o h. h) ∙ sym (ends_in_return_is c.args.line.now))
