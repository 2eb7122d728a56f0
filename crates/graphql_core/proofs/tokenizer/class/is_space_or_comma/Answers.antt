use Rattle.std.proofs.Common.{nat_eq, refl, arith}
use Rattle.graphql_core.specs.declared.tokenizer.class.TheConstants.{CLASSES}
use Rattle.graphql_core.specs.{is_space_or_comma}
use Rattle.graphql_core.proofs.{agree_below, by_class}
use Rattle.graphql_core.proofs.tokenizer.class.is_space_or_comma.Goals as goal

pub returns : goal.returns
unfolding agree_below
returns c = by_class CLASSES (λ n. nat_eq n 115) is_space_or_comma c.args.byte (omega arith) refl
