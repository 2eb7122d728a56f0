use Rattle.std.specs.List.{prefix_len}
use Rattle.std.proofs.Common.{◌≡◌, ◌∙◌, ℕ, List, ap, length, drop, min, ◌++◌, replicate, length-append, length-drop, arith}
use Rattle.std.proofs.lemmas.List.{take_all}
use Rattle.graphql_core.proofs.{padded_run}
use Rattle.graphql_core.proofs.tokenizer.run.len_in_short_slice.Goals as goal

pub returns-clause-len : goal.returns-clause-len
returns-clause-len g c =
    let p = g.C.Class.has in
    let bytes = c.args.bytes.now in
    let block : List ℕ = replicate 16 0 in
    let zeros = drop (length bytes) block in
    let all = take_all 16 (bytes ++ zeros) (omega (arith, length-append bytes zeros, length-drop (length bytes) block)) in
    let run : c.lanes.result ≡ prefix_len p (bytes ++ zeros) = rw (c.copy_from_slice.ensures.after, all) at c.lanes.ensures in
    c.min.ensures ∙ ap (λ n. min n (length bytes)) run ∙ padded_run p bytes zeros

pub slice_bounds-block-end : goal.slice_bounds-block-end
slice_bounds-block-end g c = omega arith

pub returns-clause-within : goal.returns-clause-within
returns-clause-within g c = omega arith
