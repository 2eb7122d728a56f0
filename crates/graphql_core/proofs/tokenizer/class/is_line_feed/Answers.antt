use Rattle.std.proofs.Common.{nat_eq, refl, arith}
use Rattle.graphql_core.specs.declared.tokenizer.class.TheConstants.{CLASSES}
use Rattle.graphql_core.specs.{is_line_feed}
use Rattle.graphql_core.proofs.{agree_below, by_class}
use Rattle.graphql_core.proofs.tokenizer.class.is_line_feed.Goals as goal

pub returns : goal.returns
unfolding agree_below
returns c = by_class CLASSES (λ n. nat_eq n 110) is_line_feed c.args.byte (omega arith) refl
