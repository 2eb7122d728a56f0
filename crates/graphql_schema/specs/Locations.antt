-- Directive locations, and the words that name them.
use Rattle.std.specs.Prelude.{◌≡◌, ℕ, Bool, true, false, List, [], ◌∷◌, Option, Some, None, cond, codes, is_some}
use Rattle.std.specs.Prelude.{Result, Ok, IsErr}
use Rattle.graphql_core.specs.{same_spelling}
use Rattle.graphql_schema.specs.declared.location.DirectiveLocation.{DirectiveLocation}
use Rattle.graphql_schema.specs.declared.location.DirectiveLocation.TheVariants.{Query, Mutation, Subscription, Field}
use Rattle.graphql_schema.specs.declared.location.DirectiveLocation.TheVariants.{FragmentDefinition, FragmentSpread}
use Rattle.graphql_schema.specs.declared.location.DirectiveLocation.TheVariants.{InlineFragment, Schema, Scalar, Object}
use Rattle.graphql_schema.specs.declared.location.DirectiveLocation.TheVariants.{FieldDefinition, ArgumentDefinition}
use Rattle.graphql_schema.specs.declared.location.DirectiveLocation.TheVariants.{Interface, Union, Enum, EnumValue}
use Rattle.graphql_schema.specs.declared.location.DirectiveLocation.TheVariants.{InputObject, InputFieldDefinition}
use Rattle.graphql_schema.specs.declared.location.DirectiveLocation.TheVariants.{VariableDefinition}

abbrev pub word_of : DirectiveLocation → List ℕ
word_of Query = codes "QUERY"
word_of Mutation = codes "MUTATION"
word_of Subscription = codes "SUBSCRIPTION"
word_of Field = codes "FIELD"
word_of FragmentDefinition = codes "FRAGMENT_DEFINITION"
word_of FragmentSpread = codes "FRAGMENT_SPREAD"
word_of InlineFragment = codes "INLINE_FRAGMENT"
word_of Schema = codes "SCHEMA"
word_of Scalar = codes "SCALAR"
word_of Object = codes "OBJECT"
word_of FieldDefinition = codes "FIELD_DEFINITION"
word_of ArgumentDefinition = codes "ARGUMENT_DEFINITION"
word_of Interface = codes "INTERFACE"
word_of Union = codes "UNION"
word_of Enum = codes "ENUM"
word_of EnumValue = codes "ENUM_VALUE"
word_of InputObject = codes "INPUT_OBJECT"
word_of InputFieldDefinition = codes "INPUT_FIELD_DEFINITION"
word_of VariableDefinition = codes "VARIABLE_DEFINITION"

-- the locations in queries
abbrev pub is_in_queries : DirectiveLocation → Bool
is_in_queries Query = true
is_in_queries Mutation = true
is_in_queries Subscription = true
is_in_queries Field = true
is_in_queries FragmentDefinition = true
is_in_queries FragmentSpread = true
is_in_queries InlineFragment = true
is_in_queries _ = false

-- all locations, first those in queries
abbrev pub all : List DirectiveLocation
all =
    Query ∷ Mutation ∷ Subscription ∷ Field ∷ FragmentDefinition ∷ FragmentSpread ∷ InlineFragment
    ∷ Schema ∷ Scalar ∷ Object ∷ FieldDefinition ∷ ArgumentDefinition ∷ Interface ∷ Union ∷ Enum ∷ EnumValue
    ∷ InputObject ∷ InputFieldDefinition ∷ VariableDefinition ∷ []

-- the location in a list that has this word
abbrev pub found : List ℕ → List DirectiveLocation → Option DirectiveLocation
found word [] = None
found word (l ∷ ls) = cond (same_spelling word (word_of l)) (Some l) (found word ls)

-- the location that a word names, if it names one
abbrev pub location_of : List ℕ → Option DirectiveLocation
location_of word = found word all

-- the result is this location, or an error if there is none
abbrev pub IsNamed : {E : Type 0} → Option DirectiveLocation → Result DirectiveLocation E → Type 0
IsNamed (Some l) r = r ≡ Ok l
IsNamed None r = IsErr r

abbrev pub is_location : List ℕ → Bool
is_location word = is_some (location_of word)
