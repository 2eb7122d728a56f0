use Rattle.std.proofs.Common.{length}
use Rattle.graphql_core.specs.{Sym}
use Rattle.graphql_core.proofs.{Pushes}
use Rattle.graphql_schema.specs.{item_symbol, item_of, definition_view, as_written}
use Rattle.graphql_schema.proofs.{reading}
use Rattle.graphql_schema.proofs.read.definition.definitions.Given as goal

abbrev pub invariant-more : goal.invariant-more
invariant-more g l = record {
  pushes : Pushes reading (Sym item_symbol) (as_written item_of) (definition_view g.S.Names.Names.bytes) (g.S.TokenSource.items l.initial.source)
      (g.S.TokenSource.items l.source) l.initial.definitions.items l.definitions.items;
}

abbrev pub decreases-more : goal.decreases-more
decreases-more g l = length (g.S.TokenSource.items l.source).tokens
