use Rattle.std.proofs.Common.{arith}
use Rattle.std.proofs.lemmas.Grind.{common_steps}
use Rattle.graphql_core.proofs.tokenizer.quoted.quoted.Goals as goal

pub slice_bounds-block_len-count : goal.slice_bounds-block_len-count
slice_bounds-block_len-count c = grind (arith, common_steps)

pub slice_bounds-block_len-start : goal.slice_bounds-block_len-start
slice_bounds-block_len-start c = grind (arith, common_steps)

pub slice_bounds-block_len-end : goal.slice_bounds-block_len-end
slice_bounds-block_len-end c = omega arith

pub overflow_add-len : goal.overflow_add-len
overflow_add-len c = grind (arith, common_steps)

pub slice_bounds-string_len-count : goal.slice_bounds-string_len-count
slice_bounds-string_len-count c = omega arith

pub slice_bounds-string_len-start : goal.slice_bounds-string_len-start
slice_bounds-string_len-start c = omega arith

pub slice_bounds-string_len-end : goal.slice_bounds-string_len-end
slice_bounds-string_len-end c = omega arith

pub overflow_add-len-2 : goal.overflow_add-len-2
overflow_add-len-2 c = grind (arith, common_steps)
