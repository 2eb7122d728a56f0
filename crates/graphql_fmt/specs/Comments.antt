-- Sources without tokens.
use Rattle.std.specs.Prelude.{List, ℕ, [], ◌∷◌}
use Rattle.graphql_core.specs.{HasItems, Where, item_at}
use Rattle.graphql_core.specs.lexical.Items.{EndOfInput}

-- The source has no token and no lexical error: its end is its only item. It can have comments.
abbrev pub HasNoToken : List ℕ → Type 0
HasNoToken source = (w : Where) × HasItems source (item_at EndOfInput w ∷ [])
