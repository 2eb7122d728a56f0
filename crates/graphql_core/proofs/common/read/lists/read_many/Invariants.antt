use Rattle.std.proofs.Common.{length}
use Rattle.graphql_core.proofs.{Pushes}
use Rattle.graphql_core.proofs.common.read.lists.read_many.Given as goal

abbrev pub invariant-more : goal.invariant-more
invariant-more g l = record {
  pushes : Pushes g.E.Elements.grammar g.E.Elements.production g.E.Elements.means g.E.Elements.view (g.S.TokenSource.items l.initial.source)
      (g.S.TokenSource.items l.source) l.initial.items.items l.items.items;
}

abbrev pub decreases-more : goal.decreases-more
decreases-more g l = length (g.S.TokenSource.items l.source).tokens
