use Rattle.std.proofs.Common.{sym, ◌∙◌}
use Rattle.graphql_core.proofs.{token_front}
use Rattle.graphql_core.proofs.tokenizer.piece.other_token_bytes.Goals as goal

pub returns-else-is_name_start : goal.returns-else-is_name_start
returns-else-is_name_start c =
    let other = sym c.is_name_start.ensures ∙ c.if-is_name_start.false in
    rw c.in-Some.ensures.cases.0 (rw c.in-Some.ensures.cases.0 at c.token_of.ensures ∙ sym (token_front c.in-Some.byte.now c.in-Some.rest.now other))
