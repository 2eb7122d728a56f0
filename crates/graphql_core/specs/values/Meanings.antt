-- What the parse trees of values, types and directives denote, one line for each alternative.
use Rattle.std.specs.Prelude.{ℕ, true, false, List, [], ◌∷◌, Option}
use Rattle.graphql_core.specs.grammar.{Token, Place, nowhere, ParseTree, Leaf, Both, First, Second, More, Node}
use Rattle.graphql_core.specs.values.Values.{float, string, item, enum, object, int, ValueTree, variable, boolean, null}
use Rattle.graphql_core.specs.values.Values.{list, ValueItems, no_items, ValueMembers, no_members, put, TypeTree, named}
use Rattle.graphql_core.specs.values.Values.{list_of, non_null, DirectiveTree}
use Rattle.graphql_core.specs.values.Leaves.{int_of, string_of, block_string_of}
use Rattle.graphql_core.specs.values.Parts.{optional_of, optional_list_of, each_of}

-- ---- leaves

abbrev pub place_at : ParseTree → Place
place_at (Leaf t) = t.place
place_at _ = nowhere

-- where the first token begins
abbrev pub first_place : List Token → Place
first_place [] = nowhere
first_place (t ∷ ts) = t.place

abbrev pub spelling_at : ParseTree → List ℕ
spelling_at (Leaf t) = t.spelling
spelling_at _ = []

-- ---- values

-- true, false, null, an enum value, an integer, a float, a string or a block string
abbrev pub plain_of : ParseTree → ValueTree
plain_of (Node k (First t)) = boolean true
plain_of (Node k (Second (First t))) = boolean false
plain_of (Node k (Second (Second (First t)))) = null
plain_of (Node k (Second (Second (Second (First (Node j t)))))) = enum (spelling_at t)
plain_of (Node k (Second (Second (Second (Second (First t)))))) = int (int_of (spelling_at t))
plain_of (Node k (Second (Second (Second (Second (Second (First t))))))) = float (spelling_at t)
plain_of (Node k (Second (Second (Second (Second (Second (Second (First t)))))))) = string (string_of (spelling_at t))
plain_of (Node k (Second (Second (Second (Second (Second (Second (Second t)))))))) =
    string (block_string_of (spelling_at t))
plain_of _ = null

-- puts fields into an object; the last of equal names counts
abbrev pub put_all : List (List ℕ × ValueTree) → ValueMembers → ValueMembers
put_all [] ms = ms
put_all (p ∷ ps) ms = put_all ps (put p.0 p.1 ms)

abbrev mutual
  pub value_of : ParseTree → ValueTree
  value_of (Node k (First (Both d n))) = variable (spelling_at n)
  value_of (Node k (Second (First p))) = plain_of p
  value_of (Node k (Second (Second (First (Both o (Both vs c)))))) = list (values_of vs)
  value_of (Node k (Second (Second (Second (Both o (Both ps c)))))) = object (put_all (pairs_of ps) no_members)
  value_of _ = null

  pub values_of : ParseTree → ValueItems
  values_of (More x xs) = item (value_of x) (values_of xs)
  values_of _ = no_items

  -- an argument, or a field of an object: a name and a value
  pub argument_of : ParseTree → List ℕ × ValueTree
  argument_of (Node k (Both n (Both c v))) = (spelling_at n, value_of v)
  argument_of _ = ([], null)

  pub pairs_of : ParseTree → List (List ℕ × ValueTree)
  pairs_of (Both x xs) = argument_of x ∷ pairs_of xs
  pairs_of (More x xs) = argument_of x ∷ pairs_of xs
  pairs_of _ = []

-- the same for constants
abbrev mutual
  pub const_of : ParseTree → ValueTree
  const_of (Node k (First p)) = plain_of p
  const_of (Node k (Second (First (Both o (Both vs c))))) = list (consts_of vs)
  const_of (Node k (Second (Second (Both o (Both ps c))))) = object (put_all (const_pairs_of ps) no_members)
  const_of _ = null

  pub consts_of : ParseTree → ValueItems
  consts_of (More x xs) = item (const_of x) (consts_of xs)
  consts_of _ = no_items

  pub const_pair_of : ParseTree → List ℕ × ValueTree
  const_pair_of (Node k (Both n (Both c v))) = (spelling_at n, const_of v)
  const_pair_of _ = ([], null)

  pub const_pairs_of : ParseTree → List (List ℕ × ValueTree)
  const_pairs_of (More x xs) = const_pair_of x ∷ const_pairs_of xs
  const_pairs_of _ = []

abbrev pub default_of : ParseTree → ValueTree
default_of (Node k (Both e v)) = const_of v
default_of _ = null

abbrev pub optional_default_of : ParseTree → Option ValueTree
optional_default_of = optional_of default_of

-- ---- types

-- non-null if a `!` follows
abbrev pub optional_non_null : ParseTree → TypeTree → TypeTree
optional_non_null (First m) t = non_null t
optional_non_null _ t = t

abbrev pub type_of : ParseTree → TypeTree
type_of (Node k (First (Both n m))) = optional_non_null m (named (spelling_at n))
type_of (Node k (Second (Both o (Both t (Both c m))))) = optional_non_null m (list_of (type_of t))
type_of _ = named []

-- ---- arguments and directives

abbrev pub arguments_of : ParseTree → List (List ℕ × ValueTree)
arguments_of (Node k (Both o (Both ps c))) = pairs_of ps
arguments_of _ = []

-- empty if the arguments are missing
abbrev pub optional_arguments_of : ParseTree → List (List ℕ × ValueTree)
optional_arguments_of = optional_list_of arguments_of

-- the position of a directive is that of its `@`
abbrev pub directive_of : ParseTree → DirectiveTree
directive_of (Node k (Both a (Both n o))) =
    record { position = place_at a; name = spelling_at n; arguments = optional_arguments_of o }
directive_of _ = record { position = nowhere; name = []; arguments = [] }

abbrev pub directives_of : ParseTree → List DirectiveTree
directives_of (Node k xs) = each_of directive_of xs
directives_of _ = []
