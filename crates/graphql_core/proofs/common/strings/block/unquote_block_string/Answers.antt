use Rattle.std.proofs.Common.{◌≡◌, length, get_or, ap, arith}
use Rattle.std.proofs.lemmas.Str.{IsCharBoundary-after_ascii}
use Rattle.graphql_core.proofs.common.strings.block.unquote_block_string.Goals as goal

pub range-requires-clause-start_boundary : goal.range-requires-clause-start_boundary
range-requires-clause-start_boundary c =
    let (content, e) = c.requires in
    let long = ap length e in
    let third : get_or c.args.text.now 2 0 ≡ 34 = ap (λ t. get_or t 2 0) e in
    λ _. IsCharBoundary-after_ascii c.args.text.now 2 c.utf8.text (omega arith) (omega arith)
