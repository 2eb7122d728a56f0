-- The depth of selection sets alone, which often decides how many levels are open.
use denote.Bor.{Bor}
use Rattle.std.specs.Prelude.{ℕ, ◌+◌, Bool, if◌then◌else◌, List}
use Rattle.graphql_core.specs.{StyleOptions, Weights, in_levels}
use Rattle.graphql_query.specs.declared.tree.SelectionSet.{SelectionSet}
use Rattle.graphql_query.specs.Tree.{selection_set_view}
use Rattle.graphql_query.specs.TreeDepth.{selection_set_depth}

-- only the braces of selection sets count
abbrev pub in_sets : Weights
in_sets = record {
  of_string = λ text. 0;
  of_description = λ text. 0;
  of_type = λ t. 0;
  around_values = λ n. 0;
  around_definitions = λ any n. 0;
}

-- all levels of a style, or only those of selection sets
abbrev pub counted : Bool → StyleOptions → Weights
counted all style = if all then in_levels style else in_sets

-- how deep a selection set reaches, if this many are around it
abbrev pub reach_of : {N T : Type 0} → (T → List ℕ) → Bor (SelectionSet N T) × ℕ → ℕ
reach_of bytes e = e.1 + selection_set_depth in_sets (selection_set_view bytes e.0.now)
