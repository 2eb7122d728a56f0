use Rattle.std.proofs.Common.{◌+◌, ◌*◌, ◌≤◌, length}
use Rattle.graphql_core.specs.{Sym}
use Rattle.graphql_core.proofs.{Pushes}
use Rattle.graphql_query.specs.{reading, selection_symbol, selection_view}
use Rattle.graphql_query.proofs.{selection_at}
use Rattle.graphql_query.proofs.read.selection.+reading.Given as goal

-- the measure grows by 1 if a reader calls another before it consumes a token
abbrev pub decreases-field : goal.decreases-field
decreases-field g l = 3 * length (g.S.TokenSource.items l.source.now).tokens

abbrev pub decreases-fragment_selection : goal.decreases-fragment_selection
decreases-fragment_selection g l = 3 * length (g.S.TokenSource.items l.source.now).tokens

abbrev pub decreases-selections_in_braces : goal.decreases-selections_in_braces
decreases-selections_in_braces g l = 3 * length (g.S.TokenSource.items l.source.now).tokens

abbrev pub decreases-selection : goal.decreases-selection
decreases-selection g l = 3 * length (g.S.TokenSource.items l.source.now).tokens + 1

abbrev pub decreases-selection_set : goal.decreases-selection_set
decreases-selection_set g l = 3 * length (g.S.TokenSource.items l.source.now).tokens + 1

abbrev pub decreases-optional_selection_set : goal.decreases-optional_selection_set
decreases-optional_selection_set g l = 3 * length (g.S.TokenSource.items l.source.now).tokens + 2

abbrev pub decreases-inline_fragment_after_dots : goal.decreases-inline_fragment_after_dots
decreases-inline_fragment_after_dots g l = 3 * length (g.S.TokenSource.items l.source.now).tokens + 2

abbrev pub invariant-selections_in_braces-more : goal.invariant-selections_in_braces-more
invariant-selections_in_braces-more g l = record {
  pushes : Pushes reading (Sym selection_symbol) selection_at (selection_view g.S.Names.Names.bytes) (g.S.TokenSource.items l.initial.source)
      (g.S.TokenSource.items l.source) l.initial.selections.items l.selections.items;
  within : length (g.S.TokenSource.items l.source).tokens ≤ length (g.S.TokenSource.items l.initial.source).tokens;
}

abbrev pub decreases-selections_in_braces-more : goal.decreases-selections_in_braces-more
decreases-selections_in_braces-more g l = length (g.S.TokenSource.items l.source).tokens
