use Rattle.std.proofs.Common.{refl}
use Rattle.graphql_core.proofs.{blank_added}
use Rattle.graphql_core.proofs.common.strings.block.BlockShape.with_blank_line.Goals as goal

pub returns : goal.returns
returns c ls within blank is = blank_added ls c.args.index c.args.self _ within is blank refl c.leading_blank_lines.ensures refl
