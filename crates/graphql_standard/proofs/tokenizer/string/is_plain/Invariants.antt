use Rattle.std.specs.List.{list_all}
use Rattle.std.proofs.Common.{◌≡◌, take}
use Rattle.graphql_standard.specs.steps.Escapes.{is_source_byte}
use Rattle.graphql_standard.proofs.tokenizer.string.is_plain.Given as goal

abbrev pub invariant-bytes : goal.invariant-bytes
invariant-bytes l = l.is_plain ≡ list_all is_source_byte (take l.byte-index l.bytes)
