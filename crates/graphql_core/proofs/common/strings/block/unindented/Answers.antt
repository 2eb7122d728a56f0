use Rattle.std.proofs.Common.{arith}
use Rattle.graphql_core.proofs.{boundary_in_indent}
use Rattle.graphql_core.proofs.common.strings.block.unindented.Goals as goal

pub split_at-requires : goal.split_at-requires
split_at-requires c = boundary_in_indent c.args.line.now c.min.result c.utf8.line (omega arith)
