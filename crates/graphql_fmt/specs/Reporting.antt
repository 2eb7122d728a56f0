-- The errors of a source, and what is reported of them.
use Rattle.std.specs.Prelude.{◌≡◌, ℕ, List, [], ◌∷◌}
use Rattle.graphql_standard.specs.AllErrors.{HasErrors}
use Rattle.graphql_standard.specs.declared.place.Place.{Place}
use Rattle.graphql_standard.specs.declared.error.CheckError.{CheckError}
use Rattle.graphql_standard.specs.declared.error.CheckError.TheVariants as error
use Rattle.graphql_fmt.specs.Accepting.{IsAccepted, max_open}
use Rattle.graphql_fmt.specs.declared.reports.ErrorReport.{ErrorReport}

-- The errors of a source: none, if it is accepted. Otherwise those by the grammar of September 2025, of which there is
-- at least one.
pub data HasSourceErrors (source : List ℕ) : List CheckError → Type 0 where
  accepted : IsAccepted source → HasSourceErrors source []
  rejected : {e : CheckError} {es : List CheckError} → (IsAccepted source → ⊥) → HasErrors max_open source source (e ∷ es)
      → HasSourceErrors source (e ∷ es)

-- where an error begins; one without a place is at the start of the source
abbrev pub error_place : CheckError → Place
error_place (error.Syntax e) = e.place
error_place (error.TooDeep p) = p
error_place error.TooLong = record { offset = 0; line = 1; column = 1 }
error_place error.OutOfMemory = record { offset = 0; line = 1; column = 1 }

-- the length of an error in bytes; a bracket that is one too many has one byte
abbrev pub error_len : CheckError → ℕ
error_len (error.Syntax e) = e.len
error_len (error.TooDeep p) = 1
error_len error.TooLong = 0
error_len error.OutOfMemory = 0

-- The report has the place and the length of the error. What it says in words is not specified.
abbrev pub IsReportOf : CheckError → ErrorReport → Type 0
IsReportOf e r = (r.place ≡ error_place e) × (r.len ≡ error_len e)
