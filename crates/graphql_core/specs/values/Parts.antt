-- What optional parts and lists in parse trees denote, by what their parts denote.
use Rattle.std.specs.Prelude.{Bool, true, false, List, [], ◌∷◌, Option, Some, None}
use Rattle.graphql_core.specs.grammar.{ParseTree, Both, First, More, Node}

abbrev pub is_there : ParseTree → Bool
is_there (First x) = true
is_there _ = false

-- what an optional part denotes, or `None`
abbrev pub optional_of : {A : Type 0} → (ParseTree → A) → ParseTree → Option A
optional_of f (First x) = Some (f x)
optional_of f _ = None

-- what an optional list denotes; empty if the list is missing
abbrev pub optional_list_of : {A : Type 0} → (ParseTree → List A) → ParseTree → List A
optional_list_of f (First x) = f x
optional_list_of f _ = []

-- the parts of a list: the first of a non-empty list (`Both`), or a later one (`More`)
abbrev pub each_of : {A : Type 0} → (ParseTree → A) → ParseTree → List A
each_of f (Both x xs) = f x ∷ each_of f xs
each_of f (More x xs) = f x ∷ each_of f xs
each_of f _ = []

-- the parts between an opener and a closer
abbrev pub enclosed_of : {A : Type 0} → (ParseTree → A) → ParseTree → List A
enclosed_of f (Node k (Both o (Both xs c))) = each_of f xs
enclosed_of f _ = []

-- what the part after a separator denotes
abbrev pub separated_of : {A : Type 0} → (ParseTree → A) → A → ParseTree → A
separated_of f none (Both m x) = f x
separated_of f none _ = none

-- the parts of a list with separators; a separator before the first part is ignored
abbrev pub joined_of : {A : Type 0} → (ParseTree → A) → A → ParseTree → List A
joined_of f none (Both m (Both x xs)) = f x ∷ each_of (separated_of f none) xs
joined_of f none _ = []
