use Rattle.std.proofs.Common.{◌≡◌, ◌+◌, length}
use Rattle.std.specs.List.{count_by}
use Rattle.graphql_core.specs.{continues_character}
use Rattle.graphql_core.proofs.tokenizer.characters.continuing_count.Given as goal

abbrev pub invariant-loads : goal.invariant-loads
invariant-loads l = l.count + count_by continues_character l.rest ≡ count_by continues_character l.bytes

abbrev pub decreases-loads : goal.decreases-loads
decreases-loads l = length l.rest
