use Rattle.graphql_core.proofs.{run_boundary}
use Rattle.graphql_core.proofs.tokenizer.bad.bad_at_start.Goals as goal

pub split_at-requires : goal.split_at-requires
split_at-requires c = rw (c.run_len.ensures.len, c.as_bytes-bytes.ensures.value) (run_boundary c.args.text.now)
