-- The document, ignoring positions, depends only on the kinds and values of tokens.
-- The cause of an error does not depend on positions.
use Rattle.std.proofs.Common.{◌≡◌, [], map, Some, refl, ap}
use Rattle.graphql_core.specs.{Place, leaves, no_place, first_place, place_at, optional_list_of, enclosed_of, spelling_at}
use Rattle.graphql_core.proofs.{SameTrees, same_both, same_first, same_second, same_more, same_node, left_tree, right_tree, IsSame, ByValues, DependsOnValues}
use Rattle.graphql_core.proofs.{RejectsAlike, accepted_same, valueless_alike, optional_same, optional_list_same, each_alike, enclosed_alike, spelling_same}
use Rattle.graphql_core.proofs.{type_same, optional_default_same, optional_arguments_same, directives_same}
use Rattle.graphql_query.specs.{spread, more, OperationKind, query_kind, mutation_kind, subscription_kind, with_body, short, operation, fragment}
use Rattle.graphql_query.specs.{erase_selection, erase_selection_set, erase_selections, erase_variable_definition, erase_operation, erase_fragment_definition}
use Rattle.graphql_query.specs.{erase_definition, erase, field, inline, set, queries, alias_of, type_condition_of, spread_name_of, fragment_spread_rest_of}
use Rattle.graphql_query.specs.{fragment_spread_of, field_of, optional_selection_set_of, inline_fragment_rest_of, inline_fragment_of, selection_of}
use Rattle.graphql_query.specs.{selection_set_of, selections_of, variable_definition_of, operation_body_of, keyword_operation_of, operation_of}
use Rattle.graphql_query.specs.{definition_of, document_of, fragment_definition_of}

-- ---- selections

alias_same : IsSame alias_of
alias_same (same_first (same_node k (same_both n c))) = ap Some (spelling_same n)
alias_same _ = refl

type_condition_same : IsSame type_condition_of
type_condition_same (same_node k (same_both o n)) = spelling_same n
type_condition_same _ = refl

spread_name_same : IsSame (λ x. (spread_name_of x).1)
spread_name_same (same_node k n) = spelling_same n
spread_name_same _ = refl

fragment_spread_rest_same : ByValues erase_selection fragment_spread_rest_of
fragment_spread_rest_same (same_both n ds) = λ i. spread no_place (spread_name_same n i) (directives_same ds i)
fragment_spread_rest_same _ = refl

fragment_spread_same : ByValues erase_selection fragment_spread_of
fragment_spread_same (same_node k (same_both dots rest)) = fragment_spread_rest_same rest
fragment_spread_same _ = refl

mutual
  field_same : ByValues erase_selection field_of
  field_same (same_node k (same_both a (same_both n (same_both arguments (same_both ds s))))) =
      λ i. field no_place (alias_same a i) (spelling_same n i) (optional_arguments_same arguments i) (directives_same ds i)
      (selected_same (first_place (leaves (right_tree (same_both a n)))) (first_place (leaves (left_tree (same_both a n)))) s i)
  field_same _ = refl

  selected_same : (p q : Place) (s : SameTrees)
      → erase_selection_set (optional_selection_set_of p (right_tree s)) ≡ erase_selection_set (optional_selection_set_of q (left_tree s))
  selected_same p q (same_first s) = selection_set_same s
  selected_same p q _ = refl

  inline_fragment_rest_same : ByValues erase_selection inline_fragment_rest_of
  inline_fragment_rest_same (same_both c (same_both ds s)) =
      λ i. inline no_place (optional_same type_condition_of type_condition_same c i) (directives_same ds i) (selection_set_same s i)
  inline_fragment_rest_same _ = refl

  inline_fragment_same : ByValues erase_selection inline_fragment_of
  inline_fragment_same (same_node k (same_both dots rest)) = inline_fragment_rest_same rest
  inline_fragment_same _ = refl

  selection_same : ByValues erase_selection selection_of
  selection_same (same_node k (same_first f)) = field_same f
  selection_same (same_node k (same_second (same_first s))) = fragment_spread_same s
  selection_same (same_node k (same_second (same_second i))) = inline_fragment_same i
  selection_same _ = refl

  selection_set_same : ByValues erase_selection_set selection_set_of
  selection_set_same (same_node k (same_both o (same_both ss c))) = ap (set no_place no_place) (selections_same ss)
  selection_set_same _ = refl

  selections_same : ByValues erase_selections selections_of
  selections_same (same_both x xs) = λ i. more (selection_same x i) (selections_same xs i)
  selections_same (same_more x xs) = λ i. more (selection_same x i) (selections_same xs i)
  selections_same _ = refl

-- ---- definitions

variable_definition_same : ByValues erase_variable_definition variable_definition_of
variable_definition_same (same_node k (same_both d (same_both n (same_both c (same_both t (same_both v ds)))))) =
    λ i. record {
      position = no_place;
      name = spelling_same n i;
      var_type = type_same t i;
      default_value = optional_default_same v i;
      directives = directives_same ds i;
    }
variable_definition_same (same_node k (same_both d (same_both n (same_both c (same_both t v))))) =
    λ i. record { position = no_place; name = spelling_same n i; var_type = type_same t i; default_value = optional_default_same v i; directives = [] }
variable_definition_same _ = refl

variable_definitions_same : ByValues (map erase_variable_definition) (optional_list_of (enclosed_of variable_definition_of))
variable_definitions_same = optional_list_same (map erase_variable_definition) (enclosed_of variable_definition_of)
    (enclosed_alike erase_variable_definition variable_definition_of variable_definition_same)

operation_body_same : (kind : OperationKind) (p q : Place) (c : SameTrees)
    → erase_operation (with_body kind p (operation_body_of (right_tree c))) ≡ erase_operation (with_body kind q (operation_body_of (left_tree c)))
operation_body_same kind p q (same_node k (same_both n (same_both vs (same_both ds s)))) =
    λ i. with_body kind no_place (record {
      name = optional_same spelling_at spelling_same n i;
      variables = variable_definitions_same vs i;
      directives = directives_same ds i;
      selected = selection_set_same s i;
    })
operation_body_same kind p q _ = refl

keyword_same : (kind : OperationKind) → ByValues erase_operation (keyword_operation_of kind)
keyword_same kind (same_both w c) = operation_body_same kind (place_at (right_tree w)) (place_at (left_tree w)) c
keyword_same kind _ = refl

operation_same : ByValues erase_definition operation_of
operation_same (same_node k (same_first s)) = ap short (selection_set_same s)
operation_same (same_node k (same_second (same_first o))) = ap operation (keyword_same query_kind o)
operation_same (same_node k (same_second (same_second (same_first o)))) = ap operation (keyword_same mutation_kind o)
operation_same (same_node k (same_second (same_second (same_second o)))) = ap operation (keyword_same subscription_kind o)
operation_same _ = refl

fragment_definition_same : ByValues erase_fragment_definition fragment_definition_of
fragment_definition_same (same_node k (same_both w (same_both n (same_both c (same_both ds s))))) =
    λ i. record {
      position = no_place;
      name = spelling_same n i;
      condition = type_condition_same c i;
      directives = directives_same ds i;
      selected = selection_set_same s i;
    }
fragment_definition_same _ = refl

definition_same : ByValues erase_definition definition_of
definition_same (same_node k (same_first o)) = operation_same o
definition_same (same_node k (same_second f)) = ap fragment (fragment_definition_same f)
definition_same _ = refl

document_same : ByValues erase document_of
document_same (same_node k x) = each_alike erase_definition definition_of definition_same x
document_same _ = refl

-- ---- the language

pub by_values : DependsOnValues queries
by_values = record { accepts = accepted_same; checks = λ k s. refl; means = document_same; blocks = refl }

pub rejects_alike : RejectsAlike queries
rejects_alike = record { lacks = λ c. valueless_alike; rejects = λ k s f h. absurd h }
