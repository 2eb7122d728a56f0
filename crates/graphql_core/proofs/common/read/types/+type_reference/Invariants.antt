use Rattle.std.proofs.Common.{length}
use Rattle.graphql_core.proofs.common.read.types.+type_reference.Given as goal

abbrev pub decreases-type_reference : goal.decreases-type_reference
decreases-type_reference g l = length (g.S.TokenSource.items l.source.now).tokens
