use Rattle.std.proofs.Common.{sym}
use Rattle.graphql_core.specs.{front}
use Rattle.graphql_core.proofs.{other_flat, taken_front}
use Rattle.graphql_core.proofs.tokenizer.piece.slow_token_bytes.Goals as goal

pub returns-clause-flat : goal.returns-clause-flat
returns-clause-flat c =
    let t = c.in_ok-taken.taken in
    let is = taken_front (front c.args.bytes.now) t (sym c.in_ok-taken.ensures) in
    other_flat c.args.bytes.now t.len t.kind t.nesting c.is_quoted.result is c.is_quoted.ensures
