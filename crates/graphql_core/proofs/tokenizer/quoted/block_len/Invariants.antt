use Rattle.std.proofs.Common.{◌≡◌, ◌-◌, ◌≤◌, length, drop}
use Rattle.graphql_core.specs.{block_end}
use Rattle.graphql_core.proofs.tokenizer.quoted.block_len.Given as goal

abbrev pub invariant-units : goal.invariant-units
invariant-units l = record {
  end : block_end l.len 0 (drop l.len l.bytes) ≡ block_end 0 0 l.bytes;
  within : l.len ≤ length l.bytes;
}

abbrev pub decreases-units : goal.decreases-units
decreases-units l = length l.bytes - l.len
