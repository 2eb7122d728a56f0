-- The operations of a schema that were read so far.
use Rattle.std.specs.Prelude.{◌≡◌, ℕ, List, [], Option, Some, None, option_map, codes}
use Rattle.graphql_core.specs.declared.common.cause.Cause.{Cause}
use Rattle.graphql_core.specs.{duplicate_operation, cause_text}
use Rattle.graphql_schema.specs.Roots.{Root, type_in, root_fault, root_cause}
use Rattle.graphql_schema.specs.declared.read.schema.Roots.{Roots}

-- The cause is that of the first wrong operation. Without one, each operation has the type that it names.
pub record HasRoots {N T : Type 0} (bytes : T → List ℕ) (v : Roots N T) (rs : List Root) : Type 0 where
  pub cause : option_map cause_text v.cause ≡ option_map root_cause (root_fault [] rs)
  pub query : root_fault [] rs ≡ None → option_map bytes v.query ≡ type_in rs (codes "query")
  pub mutation : root_fault [] rs ≡ None → option_map bytes v.mutation ≡ type_in rs (codes "mutation")
  pub subscription : root_fault [] rs ≡ None → option_map bytes v.subscription ≡ type_in rs (codes "subscription")

-- an empty slot takes the value; a filled slot stays, and the cause is a duplicate of this name
abbrev pub Fills : {T : Type 0} → List ℕ → T → Option T → Option T → Option Cause → Option Cause → Type 0
Fills name v None new was is = (new ≡ Some v) × (is ≡ was)
Fills name v (Some x) new was is = (new ≡ Some x) × (option_map cause_text is ≡ Some (duplicate_operation name))
