use Rattle.std.proofs.Common.{◌≤◌, length, codes, Some, None}
use Rattle.graphql_core.specs.{Then, Sym, punctuator, separated_of}
use Rattle.graphql_core.proofs.{Pushes}
use Rattle.graphql_schema.specs.{location_symbol, location_at, as_written}
use Rattle.graphql_schema.proofs.{reading}
use Rattle.graphql_schema.proofs.read.directive.locations.Given as goal

abbrev pub invariant-more : goal.invariant-more
invariant-more g l = record {
  comes : Pushes reading (Then (punctuator (codes "|")) (Sym location_symbol)) (as_written (separated_of location_at None)) Some
      (g.S.TokenSource.items l.initial.source) (g.S.TokenSource.items l.source) l.initial.locations.items l.locations.items;
  within : length (g.S.TokenSource.items l.source).tokens ≤ length (g.S.TokenSource.items l.initial.source).tokens;
}

abbrev pub decreases-more : goal.decreases-more
decreases-more g l = length (g.S.TokenSource.items l.source).tokens
