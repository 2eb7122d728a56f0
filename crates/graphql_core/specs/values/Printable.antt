-- Which values, types and directives parse back from their output, and how many brackets they open at once.
use Rattle.std.specs.Prelude.{◌≡◌, ℕ, ◌+◌, List, [], ◌∷◌, codes}
use Rattle.std.specs.List.{AllByRecursion}
use Rattle.graphql_core.specs.lexical.{IsName}
use Rattle.graphql_core.specs.values.Values.{item, enum, object, ValueTree, variable, list, ValueItems, no_items}
use Rattle.graphql_core.specs.values.Values.{ValueMembers, no_members, member, TypeTree, named, list_of, non_null}
use Rattle.graphql_core.specs.values.Values.{DirectiveTree}
use Rattle.graphql_core.specs.values.TreeDepth.{Weights, one_around, value_depth}
use Rattle.graphql_core.specs.values.TreeDepth.{directive_depth}

-- ---- names

-- a name other than these words
abbrev pub IsNameBut : List (List ℕ) → List ℕ → Type 0
IsNameBut words n = IsName n × AllByRecursion (λ w. n ≡ w → ⊥) words

-- ---- values

abbrev mutual
  pub IsPrintableValue : ValueTree → Type 0
  IsPrintableValue (variable n) = IsName n
  IsPrintableValue (enum n) = IsNameBut (codes "true" ∷ codes "false" ∷ codes "null" ∷ []) n
  IsPrintableValue (list vs) = ArePrintableItems vs
  IsPrintableValue (object ms) = ArePrintableMembers ms
  IsPrintableValue _ = Unit {0}

  pub ArePrintableItems : ValueItems → Type 0
  ArePrintableItems no_items = Unit {0}
  ArePrintableItems (item v vs) = IsPrintableValue v × ArePrintableItems vs

  pub ArePrintableMembers : ValueMembers → Type 0
  ArePrintableMembers no_members = Unit {0}
  ArePrintableMembers (member n v ms) = IsName n × IsPrintableValue v × ArePrintableMembers ms

-- the value holds no variable at any depth
abbrev mutual
  pub IsConstant : ValueTree → Type 0
  IsConstant (variable n) = ⊥
  IsConstant (list vs) = AreConstant vs
  IsConstant (object ms) = HoldConstants ms
  IsConstant _ = Unit {0}

  pub AreConstant : ValueItems → Type 0
  AreConstant no_items = Unit {0}
  AreConstant (item v vs) = IsConstant v × AreConstant vs

  pub HoldConstants : ValueMembers → Type 0
  HoldConstants no_members = Unit {0}
  HoldConstants (member n v ms) = IsConstant v × HoldConstants ms

-- ---- types, arguments and directives

abbrev pub AdmitsNull : TypeTree → Type 0
AdmitsNull (non_null t) = ⊥
AdmitsNull _ = Unit {0}

abbrev pub IsPrintableType : TypeTree → Type 0
IsPrintableType (named n) = IsName n
IsPrintableType (list_of t) = IsPrintableType t
IsPrintableType (non_null t) = AdmitsNull t × IsPrintableType t

abbrev pub IsPrintableArgument : List ℕ × ValueTree → Type 0
IsPrintableArgument a = IsName a.0 × IsPrintableValue a.1

abbrev pub IsPrintableDirective : DirectiveTree → Type 0
IsPrintableDirective d = IsName d.name × AllByRecursion IsPrintableArgument d.arguments

abbrev pub IsPrintableDefault : ValueTree → Type 0
IsPrintableDefault v = IsPrintableValue v × IsConstant v

-- ---- brackets that are open at once

abbrev pub type_brackets : TypeTree → ℕ
type_brackets (named n) = 0
type_brackets (list_of t) = type_brackets t + 1
type_brackets (non_null t) = type_brackets t

-- lists, objects, list types and non-empty parentheses open a bracket
abbrev pub in_brackets : Weights
in_brackets = record {
  of_string = λ text. 0;
  of_description = λ text. 0;
  of_type = type_brackets;
  around_values = λ n. n + 1;
  around_definitions = one_around;
}

abbrev pub value_brackets : ValueTree → ℕ
value_brackets = value_depth in_brackets

abbrev pub directive_brackets : DirectiveTree → ℕ
directive_brackets = directive_depth in_brackets
