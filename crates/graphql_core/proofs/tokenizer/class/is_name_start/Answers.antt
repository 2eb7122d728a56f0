use Rattle.std.proofs.Common.{nat_eq, refl, arith}
use Rattle.graphql_core.specs.declared.tokenizer.class.TheConstants.{CLASSES}
use Rattle.graphql_core.specs.{is_name_start}
use Rattle.graphql_core.proofs.{agree_below, by_class}
use Rattle.graphql_core.proofs.tokenizer.class.is_name_start.Goals as goal

pub returns : goal.returns
unfolding agree_below
returns c = by_class CLASSES (λ n. nat_eq n 97) is_name_start c.args.byte (omega arith) refl
