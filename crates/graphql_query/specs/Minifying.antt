-- The errors of minifying.
use Rattle.std.specs.Prelude.{◌≡◌, ◌≤◌, ◌<◌, ℕ, List, length, Some}
use Rattle.graphql_core.specs.{LastIsError, Place, CauseText, Item, HasItems, split, no_memory, max_length, too_long}
use Rattle.graphql_core.specs.{ParseFailure}

-- an allocation failed, the source is too long, or the source has a lexical error with this cause at this position
pub data IsMinifyErrorOf (text : List ℕ) : ParseFailure → Type 0 where
  ran_out : IsMinifyErrorOf text no_memory
  past_bound : max_length < length text → IsMinifyErrorOf text too_long
  lexical_error : {items : List Item} {p : Place} {c : CauseText} → length text ≤ max_length → HasItems text items
      → (split items).last ≡ LastIsError p c → IsMinifyErrorOf text (record { cause = c; place = Some p })
