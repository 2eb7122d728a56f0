use Rattle.std.proofs.Common.{◌≡◌, ◌-◌, ◌≤◌, false, length, drop}
use Rattle.graphql_core.specs.{string_end}
use Rattle.graphql_core.proofs.tokenizer.quoted.string_len.Given as goal

abbrev pub invariant-characters : goal.invariant-characters
invariant-characters l = record {
  end : string_end l.len false (drop l.len l.bytes) ≡ string_end 0 false l.bytes;
  within : l.len ≤ length l.bytes;
}

abbrev pub decreases-characters : goal.decreases-characters
decreases-characters l = length l.bytes - l.len
