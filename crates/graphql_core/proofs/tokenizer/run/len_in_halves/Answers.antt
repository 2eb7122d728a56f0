use Rattle.std.proofs.Common.{arith}
use Rattle.graphql_core.proofs.{run_most, run_in_first, run_in_last}
use Rattle.graphql_core.proofs.tokenizer.run.len_in_halves.Goals as goal

pub overflow_add-result : goal.overflow_add-result
overflow_add-result g c =
    omega (
      arith,
      run_most g.C.Class.has c.args.bytes.now _ _ _ _ c.requires.0 c.requires.1
          c.copy_from_slice.ensures.after c.copy_from_slice-2.ensures.after c.lanes-run.ensures,
    )

pub returns-then-run-lt-HALF-clause-len : goal.returns-then-run-lt-HALF-clause-len
returns-then-run-lt-HALF-clause-len g c =
    omega (
      arith,
      run_in_first g.C.Class.has c.args.bytes.now _ _ _ _ c.requires.0 c.requires.1
          c.copy_from_slice.ensures.after c.copy_from_slice-2.ensures.after c.lanes-run.ensures c.if-run-lt-HALF.true,
    )

pub returns-else-run-lt-HALF-clause-len : goal.returns-else-run-lt-HALF-clause-len
returns-else-run-lt-HALF-clause-len g c =
    omega (
      arith,
      run_in_last g.C.Class.has c.args.bytes.now _ _ _ _ c.requires.0 c.requires.1
          c.copy_from_slice.ensures.after c.copy_from_slice-2.ensures.after c.lanes-run.ensures c.if-run-lt-HALF.false,
    )

pub returns-else-run-lt-HALF-clause-within : goal.returns-else-run-lt-HALF-clause-within
returns-else-run-lt-HALF-clause-within g c =
    omega (
      arith,
      run_most g.C.Class.has c.args.bytes.now _ _ _ _ c.requires.0 c.requires.1
          c.copy_from_slice.ensures.after c.copy_from_slice-2.ensures.after c.lanes-run.ensures,
    )

pub overflow_sub-last : goal.overflow_sub-last
overflow_sub-last g c = omega arith

pub slice_bounds-block-end : goal.slice_bounds-block-end
slice_bounds-block-end g c = omega arith

pub slice_bounds-copy_from_slice-end : goal.slice_bounds-copy_from_slice-end
slice_bounds-copy_from_slice-end g c = omega arith

pub slice_bounds-copy_from_slice-count : goal.slice_bounds-copy_from_slice-count
slice_bounds-copy_from_slice-count g c = omega arith

pub slice_bounds-block-start : goal.slice_bounds-block-start
slice_bounds-block-start g c = omega arith

pub slice_bounds-copy_from_slice-count-2 : goal.slice_bounds-copy_from_slice-count-2
slice_bounds-copy_from_slice-count-2 g c = omega arith

pub slice_bounds-copy_from_slice-start : goal.slice_bounds-copy_from_slice-start
slice_bounds-copy_from_slice-start g c = omega arith

pub slice_bounds-copy_from_slice-end-3 : goal.slice_bounds-copy_from_slice-end-3
slice_bounds-copy_from_slice-end-3 g c = omega arith

pub copy_from_slice-requires-2 : goal.copy_from_slice-requires-2
copy_from_slice-requires-2 g c = omega arith

pub overflow_sub-result : goal.overflow_sub-result
overflow_sub-result g c = omega arith

pub returns-then-run-lt-HALF-clause-within : goal.returns-then-run-lt-HALF-clause-within
returns-then-run-lt-HALF-clause-within g c = omega arith
