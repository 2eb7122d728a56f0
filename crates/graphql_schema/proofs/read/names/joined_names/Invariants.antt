use Rattle.std.proofs.Common.{◌≤◌, [], length}
use Rattle.graphql_core.specs.{spelling_of, spelling_at, separated_of}
use Rattle.graphql_core.proofs.{Pushes}
use Rattle.graphql_schema.specs.{as_written}
use Rattle.graphql_schema.proofs.{separated, reading}
use Rattle.graphql_schema.proofs.read.names.joined_names.Given as goal

abbrev pub invariant-more : goal.invariant-more
invariant-more g l = record {
  comes : Pushes reading (separated (spelling_of l.separator)) (as_written (separated_of spelling_at [])) g.S.Names.Names.bytes
      (g.S.TokenSource.items l.initial.source) (g.S.TokenSource.items l.source) l.initial.names.items l.names.items;
  within : length (g.S.TokenSource.items l.source).tokens ≤ length (g.S.TokenSource.items l.initial.source).tokens;
}

abbrev pub decreases-more : goal.decreases-more
decreases-more g l = length (g.S.TokenSource.items l.source).tokens
