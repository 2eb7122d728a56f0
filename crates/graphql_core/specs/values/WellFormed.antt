-- What holds of the values in every AST that a program can make.
use Rattle.std.specs.Prelude.{ℕ, List, FitsSigned}
use Rattle.std.specs.Int.{w64}
use Rattle.std.specs.List.{AllByRecursion}
use Rattle.graphql_core.specs.strings.{IsFloatLiteral}
use Rattle.graphql_core.specs.values.Values.{float, item, object, int, ValueTree, list, ValueItems, no_items}
use Rattle.graphql_core.specs.values.Values.{ValueMembers, no_members, member, AreInKeyOrder, DirectiveTree}

-- Integers are `i64`s, floats are float literals, and each object has its keys in order.
abbrev mutual
  pub IsWellFormed : ValueTree → Type 0
  IsWellFormed (int i) = FitsSigned w64 i
  IsWellFormed (float literal) = IsFloatLiteral literal
  IsWellFormed (list vs) = AreWellFormed vs
  IsWellFormed (object ms) = AreInKeyOrder ms × HoldWellFormed ms
  IsWellFormed _ = Unit {0}

  pub AreWellFormed : ValueItems → Type 0
  AreWellFormed no_items = Unit {0}
  AreWellFormed (item v vs) = IsWellFormed v × AreWellFormed vs

  pub HoldWellFormed : ValueMembers → Type 0
  HoldWellFormed no_members = Unit {0}
  HoldWellFormed (member n v ms) = IsWellFormed v × HoldWellFormed ms

-- ---- arguments and directives

abbrev pub AreWellFormedArguments : List (List ℕ × ValueTree) → Type 0
AreWellFormedArguments = AllByRecursion (λ a. IsWellFormed a.1)

abbrev pub AreWellFormedDirectives : List DirectiveTree → Type 0
AreWellFormedDirectives = AllByRecursion (λ d. AreWellFormedArguments d.arguments)
