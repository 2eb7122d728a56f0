use Rattle.std.proofs.Common.{arith}
use Rattle.graphql_core.proofs.format.buffer.ensure_capacity.Goals as goal

pub overflow_sub-wanted : goal.overflow_sub-wanted
overflow_sub-wanted c = omega arith

pub returns-clause-allowed : goal.returns-clause-allowed
returns-clause-allowed c = omega arith
