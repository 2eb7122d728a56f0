-- The calls of a visitor that counts fields.
use Rattle.std.specs.Prelude.{◌≡◌, ℕ, ◌+◌, ◌-◌, ◌^◌, List, [], ◌∷◌, Bool, true, false, cond, min}
use Rattle.graphql_query.specs.Tree.{SelectionTree, field, spread, inline}
use Rattle.graphql_walk.specs.Nodes.{NodeTree, selection, Event, enter, leave}
use Rattle.graphql_walk.specs.declared.node.Node.{Node}
use Rattle.graphql_walk.specs.declared.node.Node.TheVariants as nodes

abbrev pub is_field_selection : SelectionTree → Bool
is_field_selection (field p alias n arguments ds s) = true
is_field_selection (spread p n ds) = false
is_field_selection (inline p condition ds s) = false

abbrev pub is_field : NodeTree → Bool
is_field (selection s) = is_field_selection s
is_field _ = false

-- the same for what a visitor sees
abbrev pub refers_to_field : {N T : Type 0} → Node N T → Bool
refers_to_field (nodes.Field f) = true
refers_to_field _ = false

abbrev pub counted : Event → ℕ
counted (enter n) = cond (is_field n) 1 0
counted (leave n) = 0

abbrev pub counted_in : List Event → ℕ
counted_in [] = 0
counted_in (e ∷ es) = counted e + counted_in es

-- the count before and after an event: a field is counted when it is entered
abbrev pub IsCounted : ℕ → Event → ℕ → Type 0
IsCounted before (enter n) after = after ≡ min (before + cond (is_field n) 1 0) (2 ^ 64 - 1)
IsCounted before (leave n) after = after ≡ before
