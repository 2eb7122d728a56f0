-- Which operation of a document a request means (October 2021, section 6.1: GetOperation), and fragments by name.
use Rattle.std.specs.Prelude.{ℕ, List, [], ◌∷◌, Bool, true, false, cond, Option, Some, None, nat_eq}
use Rattle.std.specs.Cmp.Lexicographic.{pointwise}
use Rattle.graphql_query.specs.Tree.{DefinitionTree, short, operation, fragment, DocumentTree}

-- the first definition of which a test holds
abbrev pub first_definition : (DefinitionTree → Bool) → DocumentTree → Option DefinitionTree
first_definition p [] = None
first_definition p (d ∷ ds) = cond (p d) (Some d) (first_definition p ds)

abbrev pub has_name : List ℕ → Option (List ℕ) → Bool
has_name n None = false
has_name n (Some m) = pointwise nat_eq m n

-- whether a definition is an operation, and one with this name
abbrev pub is_operation : DefinitionTree → Bool
is_operation (short s) = true
is_operation (operation o) = true
is_operation (fragment f) = false

abbrev pub is_operation_named : List ℕ → DefinitionTree → Bool
is_operation_named n (short s) = false
is_operation_named n (operation o) = has_name n o.name
is_operation_named n (fragment f) = false

-- whether it is a fragment with this name
abbrev pub is_fragment_named : List ℕ → DefinitionTree → Bool
is_fragment_named n (short s) = false
is_fragment_named n (operation o) = false
is_fragment_named n (fragment f) = pointwise nat_eq f.name n

abbrev pub has_operation : DocumentTree → Bool
has_operation [] = false
has_operation (d ∷ ds) = cond (is_operation d) true (has_operation ds)

-- the operation, if there is exactly one
abbrev pub only_operation : DocumentTree → Option DefinitionTree
only_operation [] = None
only_operation (d ∷ ds) = cond (is_operation d) (cond (has_operation ds) None (Some d)) (only_operation ds)

-- GetOperation: without a name the only operation, with a name the operation of that name
abbrev pub meant_operation : DocumentTree → Option (List ℕ) → Option DefinitionTree
meant_operation d None = only_operation d
meant_operation d (Some n) = first_definition (is_operation_named n) d
