use Rattle.std.specs.List.{count_by}
use Rattle.std.proofs.Common.{◌≡◌, ◌-◌, ◌∙◌, ◌++◌, ℕ, List, length, drop, replicate, length-append, length-drop, ap, arith}
use Rattle.std.proofs.lemmas.List.{take_all, drop-replicate}
use Rattle.graphql_core.specs.{continues_character}
use Rattle.graphql_core.proofs.{padded_count}
use Rattle.graphql_core.proofs.tokenizer.characters.continuing_in_short_slice.Goals as goal

pub returns : goal.returns
returns c =
    let bytes = c.args.bytes.now in
    let block : List ℕ = replicate 16 0 in
    let zeros = drop (length bytes) block in
    let all = take_all 16 (bytes ++ zeros) (omega (arith, length-append bytes zeros, length-drop (length bytes) block)) in
    let count : c.continuing_lanes.result ≡ count_by continues_character (bytes ++ zeros) =
    rw (c.copy_from_slice.ensures.after, all) at c.continuing_lanes.ensures in
    count ∙ ap (λ z. count_by continues_character (bytes ++ z)) (drop-replicate (length bytes) 16 0) ∙ padded_count bytes (16 - length bytes)
