use Rattle.std.specs.List.{prefix_len}
use Rattle.std.proofs.Common.{◌≡◌, ◌+◌, ◌-◌, length, drop, take, length-drop, arith}
use Rattle.std.proofs.lemmas.List.{take_all}
use Rattle.graphql_core.proofs.{front_run, goes_past}
use Rattle.graphql_core.proofs.tokenizer.run.len_by_loads.Goals as goal

pub loads-preserved : goal.loads-preserved
loads-preserved g c =
    let p = g.C.Class.has in
    let bytes = c.args.bytes.now in
    let start = c.loads.start in
    let rest = drop start bytes in
    let same = take_all (length bytes - start) rest (omega (arith, length-drop start bytes)) in
    let run : c.lanes-run.result ≡ prefix_len p (take 16 rest) = rw same at c.lanes-run.ensures in
    (omega arith, goes_past p (start + 16) bytes (omega (arith, front_run p 16 rest, run, c.loads.invariant.1)))

pub returns-clause-len : goal.returns-clause-len
returns-clause-len g c =
    let p = g.C.Class.has in
    let bytes = c.args.bytes.now in
    let last = length bytes - 16 in
    let rest = drop last bytes in
    let same = take_all (length bytes - last) rest (omega (arith, length-drop last bytes)) in
    let all = take_all 16 rest (omega (arith, length-drop last bytes)) in
    let run : c.lanes.result ≡ prefix_len p rest = rw (same, all) at c.lanes.ensures in
    omega (arith, run, goes_past p last bytes (omega (arith, c.loads.invariant.1)))

pub overflow_sub-last : goal.overflow_sub-last
overflow_sub-last g c = omega arith

pub slice_bounds-lanes-count : goal.slice_bounds-lanes-count
slice_bounds-lanes-count g c = omega arith

pub slice_bounds-lanes-start : goal.slice_bounds-lanes-start
slice_bounds-lanes-start g c = omega arith

pub slice_bounds-lanes-end : goal.slice_bounds-lanes-end
slice_bounds-lanes-end g c = omega arith

pub overflow_add-result : goal.overflow_add-result
overflow_add-result g c = omega arith

pub returns-then-run-lt-LANES-clause-within : goal.returns-then-run-lt-LANES-clause-within
returns-then-run-lt-LANES-clause-within g c = omega arith

pub overflow_add-start : goal.overflow_add-start
overflow_add-start g c = omega arith

pub loads-smaller : goal.loads-smaller
loads-smaller g c = omega arith

pub slice_bounds-lanes-count-2 : goal.slice_bounds-lanes-count-2
slice_bounds-lanes-count-2 g c = omega arith

pub slice_bounds-lanes-start-2 : goal.slice_bounds-lanes-start-2
slice_bounds-lanes-start-2 g c = omega arith

pub slice_bounds-lanes-end-2 : goal.slice_bounds-lanes-end-2
slice_bounds-lanes-end-2 g c = omega arith

pub returns-then-bytes-lt-HALF-clause-within : goal.returns-then-bytes-lt-HALF-clause-within
returns-then-bytes-lt-HALF-clause-within g c = omega arith

pub returns-then-bytes-lt-LANES-clause-within : goal.returns-then-bytes-lt-LANES-clause-within
returns-then-bytes-lt-LANES-clause-within g c = omega arith

pub len_in_short_slice-requires : goal.len_in_short_slice-requires
len_in_short_slice-requires g c = omega arith

pub len_in_halves-requires : goal.len_in_halves-requires
len_in_halves-requires g c = omega arith

pub lanes-run-requires : goal.lanes-run-requires
lanes-run-requires g c = omega arith

pub lanes-requires : goal.lanes-requires
lanes-requires g c = omega arith
