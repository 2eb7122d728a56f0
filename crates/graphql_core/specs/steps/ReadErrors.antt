-- The error for which a reader stopped, at the next item of its source.
use Rattle.std.specs.Prelude.{◌≡◌}
use Rattle.graphql_core.specs.declared.helpers.read_error.ReadError.{ReadError}
use Rattle.graphql_core.specs.declared.helpers.read_error.ReadError.TheVariants.{Memory, Item, Integer, Float, Escape}
use Rattle.graphql_core.specs.declared.helpers.read_error.ReadError.TheVariants.{Location}
use Rattle.graphql_core.specs.sources.{CauseText, int_out_of_range, malformed_float, bad_escape, unknown_location}
use Rattle.graphql_core.specs.sources.{Items, FaultText, place_next, ParseFailure, IsNextFault, at, no_memory}

-- an error with this cause, at the place of the next item
abbrev pub here : CauseText → Items → FaultText
here k i = record { cause = k; place = place_next i }

abbrev pub IsFaultFor : ReadError → Items → ParseFailure → Type 0
IsFaultFor Memory i r = r ≡ no_memory
IsFaultFor Item i r = IsNextFault i r
IsFaultFor Integer i r = r ≡ at (here int_out_of_range i)
IsFaultFor Float i r = r ≡ at (here malformed_float i)
IsFaultFor Escape i r = r ≡ at (here bad_escape i)
IsFaultFor Location i r = r ≡ at (here unknown_location i)
