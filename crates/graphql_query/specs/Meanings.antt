-- The documents that parse trees of queries denote, a line or two for each production.
use Rattle.std.specs.Prelude.{ℕ, List, [], Option, Some, None}
use Rattle.graphql_core.specs.{Place, nowhere, ParseTree, Both, First, Second, More, Node, leaves, named, place_at}
use Rattle.graphql_core.specs.{first_place, spelling_at, type_of, optional_default_of, optional_arguments_of}
use Rattle.graphql_core.specs.{directives_of, optional_of, optional_list_of, each_of, enclosed_of}
use Rattle.graphql_query.specs.Tree.{spread, more, SelectionTree, field, inline, SelectionSetTree, set}
use Rattle.graphql_query.specs.Tree.{no_selection_set, SelectionTrees, none, OperationKind, query_kind, mutation_kind}
use Rattle.graphql_query.specs.Tree.{subscription_kind, VariableDefinitionTree, OperationTree, OperationBodyTree}
use Rattle.graphql_query.specs.Tree.{with_body, FragmentDefinitionTree, DefinitionTree, short, operation, fragment}
use Rattle.graphql_query.specs.Tree.{DocumentTree}

-- ---- selections

abbrev pub alias_of : ParseTree → Option (List ℕ)
alias_of (First (Node k (Both n c))) = Some (spelling_at n)
alias_of _ = None

-- the name of the type
abbrev pub type_condition_of : ParseTree → List ℕ
type_condition_of (Node k (Both o n)) = spelling_at n
type_condition_of _ = []

-- the position and the spelling of a spread's name
abbrev pub spread_name_of : ParseTree → Place × List ℕ
spread_name_of (Node k n) = (place_at n, spelling_at n)
spread_name_of _ = (nowhere, [])

-- what follows the `...` of a spread; the position of the spread is that of its name
abbrev pub fragment_spread_rest_of : ParseTree → SelectionTree
fragment_spread_rest_of (Both n ds) = spread (spread_name_of n).0 (spread_name_of n).1 (directives_of ds)
fragment_spread_rest_of _ = spread nowhere [] []

abbrev pub fragment_spread_of : ParseTree → SelectionTree
fragment_spread_of (Node k (Both dots rest)) = fragment_spread_rest_of rest
fragment_spread_of _ = spread nowhere [] []

abbrev mutual
  -- the position of a field is that of its first token
  pub field_of : ParseTree → SelectionTree
  field_of (Node k (Both a (Both n (Both arguments (Both ds s))))) =
      field (first_place (leaves (Both a n))) (alias_of a) (spelling_at n) (optional_arguments_of arguments)
      (directives_of ds) (optional_selection_set_of (first_place (leaves (Both a n))) s)
  field_of _ = spread nowhere [] []

  -- without braces: the position of the field twice, and no selections
  pub optional_selection_set_of : Place → ParseTree → SelectionSetTree
  optional_selection_set_of p (First s) = selection_set_of s
  optional_selection_set_of p _ = no_selection_set p

  -- what follows the `...` of an inline fragment; the position of the fragment is that of the first token there
  pub inline_fragment_rest_of : ParseTree → SelectionTree
  inline_fragment_rest_of (Both c (Both ds s)) =
      inline (first_place (leaves (Both c (Both ds s)))) (optional_of type_condition_of c)
      (directives_of ds) (selection_set_of s)
  inline_fragment_rest_of _ = spread nowhere [] []

  pub inline_fragment_of : ParseTree → SelectionTree
  inline_fragment_of (Node k (Both dots rest)) = inline_fragment_rest_of rest
  inline_fragment_of _ = spread nowhere [] []

  pub selection_of : ParseTree → SelectionTree
  selection_of (Node k (First f)) = field_of f
  selection_of (Node k (Second (First s))) = fragment_spread_of s
  selection_of (Node k (Second (Second i))) = inline_fragment_of i
  selection_of _ = spread nowhere [] []

  -- the span of a selection set is the positions of its braces
  pub selection_set_of : ParseTree → SelectionSetTree
  selection_set_of (Node k (Both o (Both ss c))) = set (place_at o) (place_at c) (selections_of ss)
  selection_set_of _ = no_selection_set nowhere

  pub selections_of : ParseTree → SelectionTrees
  selections_of (Both x xs) = more (selection_of x) (selections_of xs)
  selections_of (More x xs) = more (selection_of x) (selections_of xs)
  selections_of _ = none

-- ---- definitions

-- the position of a variable is that of its `$`
abbrev pub variable_definition_of : ParseTree → VariableDefinitionTree
variable_definition_of (Node k (Both d (Both n (Both c (Both t (Both v ds)))))) =
    record {
      position = place_at d;
      name = spelling_at n;
      var_type = type_of t;
      default_value = optional_default_of v;
      directives = directives_of ds;
    }
-- in version 0.4.1, without directives
variable_definition_of (Node k (Both d (Both n (Both c (Both t v))))) =
    record {
      position = place_at d;
      name = spelling_at n;
      var_type = type_of t;
      default_value = optional_default_of v;
      directives = [];
    }
variable_definition_of _ =
    record { position = nowhere; name = []; var_type = named []; default_value = None; directives = [] }

abbrev pub operation_body_of : ParseTree → OperationBodyTree
operation_body_of (Node k (Both n (Both vs (Both ds s)))) =
    record {
      name = optional_of spelling_at n;
      variables = optional_list_of (enclosed_of variable_definition_of) vs;
      directives = directives_of ds;
      selected = selection_set_of s;
    }
operation_body_of _ = record { name = None; variables = []; directives = []; selected = no_selection_set nowhere }

-- the position of an operation is that of its keyword
abbrev pub keyword_operation_of : OperationKind → ParseTree → OperationTree
keyword_operation_of kind (Both w c) = with_body kind (place_at w) (operation_body_of c)
keyword_operation_of kind _ = with_body kind nowhere
    (record { name = None; variables = []; directives = []; selected = no_selection_set nowhere })

abbrev pub operation_of : ParseTree → DefinitionTree
operation_of (Node k (First s)) = short (selection_set_of s)
operation_of (Node k (Second (First o))) = operation (keyword_operation_of query_kind o)
operation_of (Node k (Second (Second (First o)))) = operation (keyword_operation_of mutation_kind o)
operation_of (Node k (Second (Second (Second o)))) = operation (keyword_operation_of subscription_kind o)
operation_of _ = short (no_selection_set nowhere)

-- the position of a fragment is that of its keyword
abbrev pub fragment_definition_of : ParseTree → FragmentDefinitionTree
fragment_definition_of (Node k (Both w (Both n (Both c (Both ds s))))) =
    record {
      position = place_at w;
      name = spelling_at n;
      condition = type_condition_of c;
      directives = directives_of ds;
      selected = selection_set_of s;
    }
fragment_definition_of _ =
    record { position = nowhere; name = []; condition = []; directives = []; selected = no_selection_set nowhere }

abbrev pub definition_of : ParseTree → DefinitionTree
definition_of (Node k (First o)) = operation_of o
definition_of (Node k (Second f)) = fragment (fragment_definition_of f)
definition_of _ = short (no_selection_set nowhere)

abbrev pub document_of : ParseTree → DocumentTree
document_of (Node k x) = each_of definition_of x
document_of _ = []
