-- Why an input is rejected: a cause, and its place if it has one.
use Rattle.std.specs.Prelude.{◌≡◌, ℕ, ◌-◌, ◌^◌, ◌/◌, Option, Some, None}
use Rattle.graphql_core.specs.grammar.{Place}
use Rattle.graphql_core.specs.sources.Causes.{CauseText, text_too_long, out_of_memory}
use Rattle.graphql_core.specs.sources.Source.{Items, FaultText, fault_at}

pub record ParseFailure : Type 0 where
  pub cause : CauseText
  pub place : Option Place

abbrev pub at : FaultText → ParseFailure
at f = record { cause = f.cause; place = Some f.place }

abbrev pub no_memory : ParseFailure
no_memory = record { cause = out_of_memory; place = None }

-- the greatest length of an input, in bytes
abbrev pub max_length : ℕ
max_length = (2 ^ 64 - 1) / 16

-- the error for a longer input
abbrev pub too_long : ParseFailure
too_long = record { cause = text_too_long; place = Some (record { line = 1; column = 1 }) }

-- ---- what an error says

abbrev pub IsOutOfMemoryOrAt : (FaultText → Type 0) → CauseText → Option Place → Type 0
IsOutOfMemoryOrAt P c (Some p) = P (record { cause = c; place = p })
IsOutOfMemoryOrAt P c None = c ≡ out_of_memory

-- the error is out of memory, or `P` holds of its cause and place
abbrev pub IsOutOfMemoryOr : (FaultText → Type 0) → ParseFailure → Type 0
IsOutOfMemoryOr P r = IsOutOfMemoryOrAt P r.cause r.place

-- the error is out of memory, or it is the error at the next item
abbrev pub IsNextFault : Items → ParseFailure → Type 0
IsNextFault i r = IsOutOfMemoryOr (λ f. f ≡ fault_at i) r
