use Rattle.std.proofs.Common.{nat_le, refl, arith}
use Rattle.graphql_core.specs.declared.tokenizer.class.TheConstants.{CLASSES}
use Rattle.graphql_core.specs.{can_begin_ignored}
use Rattle.graphql_core.proofs.{agree_below, by_class}
use Rattle.graphql_core.proofs.tokenizer.class.can_begin_ignored.Goals as goal

pub returns : goal.returns
unfolding agree_below
returns c = by_class CLASSES (λ n. nat_le 110 n) can_begin_ignored c.args.byte (omega arith) refl
