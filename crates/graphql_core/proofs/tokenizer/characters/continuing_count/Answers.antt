use Rattle.std.proofs.Common.{◌-◌, cond, length, drop, length-drop, arith}
use Rattle.std.proofs.lemmas.List.{take_all}
use Rattle.std.proofs.lemmas.List.Sums.{sum_by-take-drop, count_by-le-length}
use Rattle.graphql_core.specs.{continues_character}
use Rattle.graphql_core.proofs.tokenizer.characters.continuing_count.Goals as goal

pub overflow_add-count : goal.overflow_add-count
overflow_add-count c =
    let parts = sum_by-take-drop (λ x. cond (continues_character x) 1 0) c.loads.rest.now 16 in
    omega (arith, c.loads.invariant, c.continuing_lanes-count.ensures, parts, count_by-le-length continues_character c.args.bytes.now)

pub loads-preserved : goal.loads-preserved
loads-preserved c =
    let rest = c.loads.rest.now in
    let parts = sum_by-take-drop (λ x. cond (continues_character x) 1 0) rest 16 in
    let left = take_all (length rest - 16) (drop 16 rest) (omega (arith, length-drop 16 rest)) in
    rw left (omega (arith, c.loads.invariant, c.continuing_lanes-count.ensures, parts))
