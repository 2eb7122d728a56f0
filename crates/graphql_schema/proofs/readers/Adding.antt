-- Whether an extension adds something does not depend on positions.
use Rattle.std.proofs.Common.{◌≡◌, ◌||◌, false, List, [], ◌∷◌, map, refl, ap, ap₂}
use Rattle.graphql_core.specs.{DirectiveTree, no_place, erase as erase_one, has_any}
use Rattle.graphql_schema.specs.{PartsTree, scalar, object, interface, union, enum, input, BodyTree, adds_something, has_operation, extends, DefinitionTree}
use Rattle.graphql_schema.specs.{type_definition, extension, schema_extension, directive, erase_input_value, erase_field, erase_enum_value, erase_body, schema}
use Rattle.graphql_schema.specs.{erase_definition}

any_alike : {A B : Type 0} (f : A → B) (xs : List A) → has_any (map f xs) ≡ has_any xs
any_alike f [] = refl
any_alike f (x ∷ xs) = refl

-- a type with these directives and parts; its name is ignored
abbrev body_of_parts : List DirectiveTree → PartsTree → BodyTree
body_of_parts ds parts = record { position = no_place; name = []; directives = ds; parts = parts }

adds_as : (ds : List DirectiveTree) (parts : PartsTree) → adds_something (erase_body (body_of_parts ds parts)) ≡ adds_something (body_of_parts ds parts)
adds_as ds scalar = ap (λ a. a || false) (any_alike erase_one ds)
adds_as ds (object is fs) = ap₂ (λ a c. a || (has_any is || c)) (any_alike erase_one ds) (any_alike erase_field fs)
adds_as ds (interface is fs) = ap₂ (λ a c. a || c) (any_alike erase_one ds) (any_alike erase_field fs)
adds_as ds (union ts) = ap (λ a. a || has_any ts) (any_alike erase_one ds)
adds_as ds (enum vs) = ap₂ (λ a c. a || c) (any_alike erase_one ds) (any_alike erase_enum_value vs)
adds_as ds (input fs) = ap₂ (λ a c. a || c) (any_alike erase_one ds) (any_alike erase_input_value fs)

pub extends_alike : (d : DefinitionTree) → extends (erase_definition d) ≡ extends d
extends_alike (schema d s) = refl
extends_alike (type_definition d b) = refl
extends_alike (extension b) = adds_as b.directives b.parts
extends_alike (schema_extension s) = ap (λ a. a || has_operation s) (any_alike erase_one s.directives)
extends_alike (directive d) = refl
