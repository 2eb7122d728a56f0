-- The operations that a schema or an extension of it can name: three, each at most once.
use Rattle.std.specs.Prelude.{ℕ, not, cond, if◌then◌else◌, List, [], ◌∷◌, ◌++◌, Option, Some, None, is_some, codes}
use Rattle.std.specs.Option.{option_or}
use Rattle.graphql_core.specs.{duplicate_operation, is_listed, same_spelling, ParseTree, Both, Node, CauseText}
use Rattle.graphql_core.specs.{unknown_operation, spelling_at, each_of, enclosed_of, optional_list_of}

-- the name of an operation, and the name of its type
pub record Root : Type 0 where
  pub name : List ℕ
  pub type_name : List ℕ

abbrev pub root_at : ParseTree → Root
root_at (Node k (Both n (Both c t))) = record { name = spelling_at n; type_name = spelling_at t }
root_at _ = record { name = []; type_name = [] }

-- the operations in the braces of a schema, and those of an extension, which can have no braces
abbrev pub roots_of : ParseTree → List Root
roots_of = each_of root_at

abbrev pub roots_in : ParseTree → List Root
roots_in = optional_list_of (enclosed_of root_at)

-- the type of the first operation with this name
abbrev pub type_in : List Root → List ℕ → Option (List ℕ)
type_in [] word = None
type_in (r ∷ rs) word = cond (same_spelling word r.name) (Some r.type_name) (type_in rs word)

abbrev pub root_names : List (List ℕ)
root_names = codes "query" ∷ codes "mutation" ∷ codes "subscription" ∷ []

-- the error of an operation: its name is none of the three, or appeared before
pub data RootFault : Type 0 where
  unknown : (name : List ℕ) → RootFault
  duplicate : (name : List ℕ) → RootFault

-- the error of an operation after some others, if there is one
abbrev pub fault_after : List Root → Root → Option RootFault
fault_after before r =
    if not (is_listed r.name root_names) then Some (unknown r.name)
    else if is_some (type_in before r.name) then Some (duplicate r.name)
    else None

-- the first error of some operations, after others
abbrev pub root_fault : List Root → List Root → Option RootFault
root_fault before [] = None
root_fault before (r ∷ rs) = option_or (fault_after before r) (root_fault (before ++ r ∷ []) rs)

-- the first error in the parse tree of a schema
abbrev pub root_fault_of : ParseTree → Option RootFault
root_fault_of (Both w (Both ds (Both o (Both roots c)))) = root_fault [] (roots_of roots)
root_fault_of _ = None

-- the first error in the parse tree of an extension of the schema
abbrev pub extension_fault_of : ParseTree → Option RootFault
extension_fault_of (Both w (Both ds rs)) = root_fault [] (roots_in rs)
extension_fault_of _ = None

abbrev pub root_cause : RootFault → CauseText
root_cause (unknown n) = unknown_operation n
root_cause (duplicate n) = duplicate_operation n
