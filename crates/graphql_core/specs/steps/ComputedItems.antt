-- The items of an input, computed one lexical element at a time. `HasItems` specifies them.
use Rattle.std.specs.Prelude.{ℕ, zero, suc, List, [], ◌∷◌, length, take, drop}
use Rattle.graphql_core.specs.lexical.{too_deep, Where, Item, item_at, TokenContent, EndOfInput, LexicalError}
use Rattle.graphql_core.specs.lexical.{past_ignored, past_token, is_too_deep, last_item, token_then}
use Rattle.graphql_core.specs.steps.Front.{FrontElement, AtEnd, Skips, Takes, Stops, front}

-- the lexical element at the front, and then `more`
abbrev pub items_by : (Where → List ℕ → List Item) → Where → List ℕ → FrontElement → List Item
items_by more w bytes AtEnd = item_at EndOfInput w ∷ []
items_by more w bytes Stops = last_item w bytes ∷ []
items_by more w bytes (Skips n m) = more (past_ignored m n w) (drop n bytes)
items_by more w bytes (Takes n k t) =
    token_then (is_too_deep t w) (item_at (LexicalError too_deep) w) (item_at (TokenContent k (take n bytes)) w)
    (more (past_token t (take n bytes) w) (drop n bytes))

-- the same, for at most this many lexical elements
unfoldable pub items_in : ℕ → Where → List ℕ → List Item
items_in zero w bytes = item_at EndOfInput w ∷ []
items_in (suc n) w bytes = items_by (items_in n) w bytes (front bytes)

-- the items of an input that begins at the place `w`
unfoldable pub items : Where → List ℕ → List Item
items w bytes = items_in (length bytes) w bytes
