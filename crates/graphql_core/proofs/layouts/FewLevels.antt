-- With arguments in one line, values, defaults, arguments and directives open at most one level: a block string.
use Rattle.std.proofs.Common.{◌≡◌, ◌≤◌, ℕ, Bool, true, false, if◌then◌else◌, List, [], ◌∷◌, Option, Some, None, arith}
use Rattle.graphql_core.specs.{float, string, item, enum, object, no_items, int, ValueTree, ValueItems, ValueMembers, DirectiveTree, variable, boolean, null}
use Rattle.graphql_core.specs.{list, no_members, member, StyleOptions, has_block_form, opened, string_levels, value_levels, items_levels, members_levels}
use Rattle.graphql_core.specs.{most_levels}
use Rattle.graphql_core.specs.{arguments_levels, directives_levels, default_levels, most}

-- ---- lists of trees

-- a bound of each is a bound of the maximum
pub most_bounded : {A : Type 0} (f : A → ℕ) (bound : ℕ) → ((x : A) → f x ≤ bound) → (xs : List A) → most f xs ≤ bound
most_bounded f bound each [] = omega arith
most_bounded f bound each (x ∷ xs) = let first = each x in let others = most_bounded f bound each xs in omega (arith, first, others)

-- ---- values and directives

one_or_none : (b : Bool) → (if b then 1 else 0) ≤ 1
one_or_none true = omega arith
one_or_none false = omega arith

pub string_bounded : (text : List ℕ) → string_levels text ≤ 1
string_bounded text = one_or_none (has_block_form text)

module _ (style : StyleOptions) (one_line : style.multiline ≡ false) where
  opened_bounded : (n : ℕ) → n ≤ 1 → opened style n ≤ 1
  opened_bounded n h = rw one_line h

  mutual
    value_bounded : (v : ValueTree) → value_levels style v ≤ 1
    value_bounded (variable n) = omega arith
    value_bounded (int i) = omega arith
    value_bounded (float literal) = omega arith
    value_bounded (string text) = string_bounded text
    value_bounded (boolean b) = omega arith
    value_bounded null = omega arith
    value_bounded (enum n) = omega arith
    value_bounded (list vs) = opened_bounded _ (items_bounded vs)
    value_bounded (object ms) = opened_bounded _ (members_bounded ms)

    items_bounded : (vs : ValueItems) → items_levels style vs ≤ 1
    items_bounded no_items = omega arith
    items_bounded (item v vs) = let first = value_bounded v in let others = items_bounded vs in omega (arith, first, others)

    members_bounded : (ms : ValueMembers) → members_levels style ms ≤ 1
    members_bounded no_members = omega arith
    members_bounded (member n v ms) = let first = value_bounded v in let others = members_bounded ms in omega (arith, first, others)

  pub default_bounded : (v : Option ValueTree) → default_levels style v ≤ 1
  default_bounded None = omega arith
  default_bounded (Some v) = value_bounded v

  given_bounded : (arguments : List (List ℕ × ValueTree)) → most_levels style arguments ≤ 1
  given_bounded [] = omega arith
  given_bounded (a ∷ more) = let first = value_bounded a.1 in let others = given_bounded more in omega (arith, first, others)

  pub arguments_bounded : (arguments : List (List ℕ × ValueTree)) → arguments_levels style arguments ≤ 1
  arguments_bounded [] = omega arith
  arguments_bounded (a ∷ more) = opened_bounded _ (given_bounded (a ∷ more))

  pub directives_bounded : (ds : List DirectiveTree) → directives_levels style ds ≤ 1
  directives_bounded [] = omega arith
  directives_bounded (d ∷ ds) = let first = arguments_bounded d.arguments in let others = directives_bounded ds in omega (arith, first, others)
