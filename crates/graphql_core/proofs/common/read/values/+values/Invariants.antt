use Rattle.std.proofs.Common.{ℕ, ◌+◌, ◌*◌, ◌≤◌, ◌≡◌, List, length}
use Rattle.graphql_core.specs.{Sym, shared, put_all, symbol_of, pair_symbol_of, tree_of, pair_of, ValueTree, value_view, members_view}
use Rattle.graphql_core.proofs.{Pushes, Turns}
use Rattle.graphql_core.proofs.common.read.values.+values.Given as goal

-- a list, an object and a member take a token before they read a value
abbrev pub decreases-value_by_constness : goal.decreases-value_by_constness
decreases-value_by_constness g l = 2 * length (g.S.TokenSource.items l.source.now).tokens + 1

abbrev pub decreases-list : goal.decreases-list
decreases-list g l = 2 * length (g.S.TokenSource.items l.source.now).tokens

abbrev pub decreases-object : goal.decreases-object
decreases-object g l = 2 * length (g.S.TokenSource.items l.source.now).tokens

abbrev pub decreases-member : goal.decreases-member
decreases-member g l = 2 * length (g.S.TokenSource.items l.source.now).tokens

abbrev pub invariant-list-more : goal.invariant-list-more
invariant-list-more g l = record {
  pushes : Pushes shared (Sym (symbol_of l.constness)) (tree_of l.constness) (value_view g.S.Names.Names.bytes) (g.S.TokenSource.items l.initial.source)
      (g.S.TokenSource.items l.source) l.initial.items.items l.items.items;
  within : length (g.S.TokenSource.items l.source).tokens ≤ length (g.S.TokenSource.items l.initial.source).tokens;
}

abbrev pub decreases-list-more : goal.decreases-list-more
decreases-list-more g l = length (g.S.TokenSource.items l.source).tokens

abbrev pub invariant-object-more : goal.invariant-object-more
invariant-object-more g l = record {
  turns : (pairs : List (List ℕ × ValueTree))
      × Turns shared (Sym (pair_symbol_of l.constness)) (pair_of l.constness) (g.S.TokenSource.items l.initial.source)
      (g.S.TokenSource.items l.source) pairs
      × (members_view g.S.Names.Names.bytes l.fields.entries ≡ put_all pairs (members_view g.S.Names.Names.bytes l.initial.fields.entries));
  within : length (g.S.TokenSource.items l.source).tokens ≤ length (g.S.TokenSource.items l.initial.source).tokens;
}

abbrev pub decreases-object-more : goal.decreases-object-more
decreases-object-more g l = length (g.S.TokenSource.items l.source).tokens
