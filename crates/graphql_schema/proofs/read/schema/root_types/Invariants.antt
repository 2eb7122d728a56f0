use Rattle.std.proofs.Common.{◌≤◌, ◌++◌, List, length}
use Rattle.graphql_core.specs.{Sym}
use Rattle.graphql_core.proofs.{Turns}
use Rattle.graphql_schema.specs.{Root, root_type_symbol, HasRoots}
use Rattle.graphql_schema.proofs.{reading, turn_of}
use Rattle.graphql_schema.proofs.read.schema.root_types.Given as goal

abbrev pub invariant-more : goal.invariant-more
invariant-more g l = record {
  roots : (new : List Root) × Turns reading (Sym root_type_symbol) turn_of (g.S.TokenSource.items l.initial.source)
      (g.S.TokenSource.items l.source) new
      × ((rs : List Root) → HasRoots g.S.Names.Names.bytes l.initial.roots rs → HasRoots g.S.Names.Names.bytes l.roots (rs ++ new));
  within : length (g.S.TokenSource.items l.source).tokens ≤ length (g.S.TokenSource.items l.initial.source).tokens;
}

abbrev pub decreases-more : goal.decreases-more
decreases-more g l = length (g.S.TokenSource.items l.source).tokens
