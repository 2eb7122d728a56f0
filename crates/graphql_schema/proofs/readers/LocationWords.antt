-- Each location's word is a name, and names the location.
use Rattle.std.proofs.Common.{◌≡◌, Some, refl}
use Rattle.graphql_core.specs.{IsName}
use Rattle.graphql_schema.specs.declared.location.DirectiveLocation.{DirectiveLocation}
use Rattle.graphql_schema.specs.{word_of, location_of}
use Rattle.graphql_schema.specs.declared.location.DirectiveLocation.TheVariants as declared

named : (l : DirectiveLocation) → (location_of (word_of l) ≡ Some l) × IsName (word_of l)
named declared.Query = (refl, (refl, refl))
named declared.Mutation = (refl, (refl, refl))
named declared.Subscription = (refl, (refl, refl))
named declared.Field = (refl, (refl, refl))
named declared.FragmentDefinition = (refl, (refl, refl))
named declared.FragmentSpread = (refl, (refl, refl))
named declared.InlineFragment = (refl, (refl, refl))
named declared.Schema = (refl, (refl, refl))
named declared.Scalar = (refl, (refl, refl))
named declared.Object = (refl, (refl, refl))
named declared.FieldDefinition = (refl, (refl, refl))
named declared.ArgumentDefinition = (refl, (refl, refl))
named declared.Interface = (refl, (refl, refl))
named declared.Union = (refl, (refl, refl))
named declared.Enum = (refl, (refl, refl))
named declared.EnumValue = (refl, (refl, refl))
named declared.InputObject = (refl, (refl, refl))
named declared.InputFieldDefinition = (refl, (refl, refl))
named declared.VariableDefinition = (refl, (refl, refl))

pub location_named : (l : DirectiveLocation) → location_of (word_of l) ≡ Some l
location_named l = (named l).0

pub location_name : (l : DirectiveLocation) → IsName (word_of l)
location_name l = (named l).1
