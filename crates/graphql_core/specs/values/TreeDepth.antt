-- How deep ASTs nest, in brackets or in levels: one fold, with a weight for each part.
use Rattle.std.specs.Prelude.{ℕ, ◌+◌, max, Bool, true, false, if◌then◌else◌, List, [], ◌∷◌, Option}
use Rattle.std.specs.Option.{option_map_or}
use Rattle.graphql_core.specs.values.Values.{string, item, object, ValueTree, list, ValueItems, no_items, ValueMembers}
use Rattle.graphql_core.specs.values.Values.{no_members, member, TypeTree, DirectiveTree}

-- ---- lists of trees

abbrev pub has_any : {A : Type 0} → List A → Bool
has_any [] = false
has_any (x ∷ xs) = true

-- the maximum over a list
abbrev pub most : {A : Type 0} → (A → ℕ) → List A → ℕ
most f [] = 0
most f (x ∷ xs) = max (f x) (most f xs)

-- the maximum over a list, and the weight around the list
abbrev pub most_around : {A : Type 0} → (Bool → ℕ → ℕ) → (A → ℕ) → List A → ℕ
most_around around f xs = around (has_any xs) (most f xs)

-- one more if there is any element
abbrev pub one_around : Bool → ℕ → ℕ
one_around any n = if any then n + 1 else n

abbrev pub most_enclosed : {A : Type 0} → (A → ℕ) → List A → ℕ
most_enclosed = most_around one_around

-- ---- what the parts of a tree weigh

pub record Weights : Type 0 where
  pub of_string : List ℕ → ℕ
  pub of_description : Option (List ℕ) → ℕ
  pub of_type : TypeTree → ℕ
  -- the depth of a list, an object or arguments, from the depth of the values inside
  pub around_values : ℕ → ℕ
  -- the same for parentheses on one line, around definitions of variables or arguments, if there are any (the flag)
  pub around_definitions : Bool → ℕ → ℕ

-- ---- values

abbrev mutual
  pub value_depth : Weights → ValueTree → ℕ
  value_depth w (string text) = w.of_string text
  value_depth w (list vs) = w.around_values (items_depth w vs)
  value_depth w (object ms) = w.around_values (members_depth w ms)
  value_depth w _ = 0

  pub items_depth : Weights → ValueItems → ℕ
  items_depth w no_items = 0
  items_depth w (item v vs) = max (value_depth w v) (items_depth w vs)

  pub members_depth : Weights → ValueMembers → ℕ
  members_depth w no_members = 0
  members_depth w (member n v ms) = max (value_depth w v) (members_depth w ms)

abbrev pub default_depth : Weights → Option ValueTree → ℕ
default_depth w v = option_map_or (value_depth w) v 0

-- ---- arguments and directives

abbrev pub argument_depth : Weights → List ℕ × ValueTree → ℕ
argument_depth w a = value_depth w a.1

abbrev pub arguments_depth : Weights → List (List ℕ × ValueTree) → ℕ
arguments_depth w [] = 0
arguments_depth w (a ∷ more) = w.around_values (most (argument_depth w) (a ∷ more))

abbrev pub directive_depth : Weights → DirectiveTree → ℕ
directive_depth w d = arguments_depth w d.arguments

abbrev pub directives_depth : Weights → List DirectiveTree → ℕ
directives_depth w = most (directive_depth w)
