use Rattle.std.proofs.Common.{refl}
use Rattle.graphql_core.proofs.{spelling_differs}
use Rattle.graphql_schema.proofs.location.DirectiveLocationFromStr.from_str.Goals as goal

-- no location has this word
pub returns-in_default : goal.returns-in_default
returns-in_default c =
    let n = c.in_default in
    rw (
      spelling_differs _ _ n.not-QUERY,
      spelling_differs _ _ n.not-MUTATION,
      spelling_differs _ _ n.not-SUBSCRIPTION,
      spelling_differs _ _ n.not-FIELD,
      spelling_differs _ _ n.not-FRAGMENT_DEFINITION,
      spelling_differs _ _ n.not-FRAGMENT_SPREAD,
      spelling_differs _ _ n.not-INLINE_FRAGMENT,
      spelling_differs _ _ n.not-SCHEMA,
      spelling_differs _ _ n.not-SCALAR,
      spelling_differs _ _ n.not-OBJECT,
      spelling_differs _ _ n.not-FIELD_DEFINITION,
      spelling_differs _ _ n.not-ARGUMENT_DEFINITION,
      spelling_differs _ _ n.not-INTERFACE,
      spelling_differs _ _ n.not-UNION,
      spelling_differs _ _ n.not-ENUM,
      spelling_differs _ _ n.not-ENUM_VALUE,
      spelling_differs _ _ n.not-INPUT_OBJECT,
      spelling_differs _ _ n.not-INPUT_FIELD_DEFINITION,
      spelling_differs _ _ n.not-VARIABLE_DEFINITION,
    ) refl
