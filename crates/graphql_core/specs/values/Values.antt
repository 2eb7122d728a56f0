-- Abstract values, types and directives, with each name and string as its bytes.
use Rattle.std.specs.Prelude.{ℕ, ℤ, List, [], ◌∷◌, Bool, map}
use Rattle.std.specs.Ordering.{nat_cmp, match_ordering}
use Rattle.std.specs.List.Sorted.{IsStrictlySortedBy}
use Rattle.std.specs.Cmp.Lexicographic.{slice_cmp}
use Rattle.graphql_core.specs.grammar.{Place}

mutual
  pub data ValueTree : Type 0 where
    variable : List ℕ → ValueTree
    int : ℤ → ValueTree
    -- a float, as its spelling
    float : List ℕ → ValueTree
    string : List ℕ → ValueTree
    boolean : Bool → ValueTree
    null : ValueTree
    enum : List ℕ → ValueTree
    list : ValueItems → ValueTree
    object : ValueMembers → ValueTree

  pub data ValueItems : Type 0 where
    no_items : ValueItems
    item : ValueTree → ValueItems → ValueItems

  -- the fields of an object, each a name and a value
  pub data ValueMembers : Type 0 where
    no_members : ValueMembers
    member : List ℕ → ValueTree → ValueMembers → ValueMembers

-- the members with the value `v` at the key `k`: a new key comes before the greater ones, an equal key is replaced
abbrev pub put : List ℕ → ValueTree → ValueMembers → ValueMembers
put k v no_members = member k v no_members
put k v (member l w ms) =
    match_ordering (slice_cmp nat_cmp k l) (member k v (member l w ms)) (member l v ms) (member l w (put k v ms))

abbrev pub keys : ValueMembers → List (List ℕ)
keys no_members = []
keys (member k v ms) = k ∷ keys ms

-- each key once, from the least to the greatest
abbrev pub AreInKeyOrder : ValueMembers → Type 0
AreInKeyOrder ms = IsStrictlySortedBy (slice_cmp nat_cmp) (keys ms)

pub data TypeTree : Type 0 where
  named : List ℕ → TypeTree
  list_of : TypeTree → TypeTree
  non_null : TypeTree → TypeTree

pub record DirectiveTree : Type 0 where
  pub position : Place
  pub name : List ℕ
  pub arguments : List (List ℕ × ValueTree)

-- ---- without positions

abbrev pub no_place : Place
no_place = record { line = 0; column = 0 }

abbrev pub erase : DirectiveTree → DirectiveTree
erase d = record { position = no_place; name = d.name; arguments = d.arguments }

abbrev pub erase_all : List DirectiveTree → List DirectiveTree
erase_all = map erase
