-- The calls for sources: formatting with comments, and all errors as JSON.
use Rattle.std.specs.Prelude.{◌≡◌, ◌≢◌, ℕ, List, [], ◌∷◌, take, map, zero, suc, Option, Some, None, Err}
use Rattle.std.specs.Prelude.{codes, option_map, string_bytes}
use Rattle.std.specs.Str.{IsUtf8}
use Rattle.graphql_standard.specs.declared.place.Place.{Place}
use Rattle.graphql_standard.specs.declared.error.Found.{Found}
use Rattle.graphql_standard.specs.declared.error.Found.TheVariants as found
use Rattle.graphql_standard.specs.declared.error.CheckError.{CheckError}
use Rattle.graphql_standard.specs.declared.error.CheckError.TheVariants as error
use Rattle.graphql_fmt.specs.{IsAccepted, AcceptsDocuments, HasSameDocuments, HasSourceErrors, KeepsAll, IsTidy}
use Rattle.graphql_fmt.specs.{IsReportOf, error_place}
use Rattle.graphql_fmt.specs.declared.reports.ErrorReport.{ErrorReport}
use Rattle.graphql_json.specs.Json.{Json, json_text}
use Rattle.graphql_json.specs.Json as json
use Rattle.graphql_json.specs.Nodes.{elements_of, members_of}
use Rattle.graphql_c.specs.Results.{Numbers}

-- ---- formatting

-- The source is formatted: what `format_source` of `graphql_fmt` promises for a document, and `format_comments` for a
-- source without a token.
pub record IsFormattedSource (text output : List ℕ) : Type 0 where
  pub utf8 : IsUtf8 text
  pub accepted : IsAccepted text
  pub kept : KeepsAll text output
  pub tidy : IsTidy output
  pub same_document : HasSameDocuments text output

-- Why the source is not formatted. `AcceptsDocuments` says which error it is.
pub record IsRejectedSource (text : List ℕ) (e : CheckError) : Type 0 where
  pub memory : e ≢ error.OutOfMemory
  pub not_accepted : IsAccepted text → ⊥
  pub error_is : AcceptsDocuments {A = List ℕ} text (Err e)

-- the statuses of the errors of a source
abbrev pub found_status : Found → ℕ
found_status (found.Token k) = 2
found_status found.EndOfInput = 3
found_status found.LexicalError = 1

abbrev pub source_status : CheckError → ℕ
source_status (error.Syntax e) = found_status e.found
source_status (error.TooDeep p) = 4
source_status error.TooLong = 12
source_status error.OutOfMemory = 13

-- the numbers of an error of a source
abbrev pub source_numbers : CheckError → Numbers
source_numbers e = record {
  status = source_status e;
  line = (error_place e).line;
  column = (error_place e).column;
  offset = (error_place e).offset;
}

-- ---- errors as JSON

-- a value, or `null` without one
abbrev pub or_null : {A : Type 0} → (A → Json) → Option A → Json
or_null write None = json.null
or_null write (Some v) = write v

-- the object of an error
unfoldable pub report_json : ErrorReport → Json
report_json r =
    json.object (members_of ((codes "line", json.number r.place.line)
    ∷ (codes "column", json.number r.place.column)
    ∷ (codes "offset", json.number r.place.offset)
    ∷ (codes "length", json.number r.len)
    ∷ (codes "inner_column", or_null json.number (option_map (λ (p : Place). p.column) r.inner))
    ∷ (codes "inner_offset", or_null json.number (option_map (λ (p : Place). p.offset) r.inner))
    ∷ (codes "message", json.string (string_bytes r.message))
    ∷ (codes "found", or_null (λ text. json.string (string_bytes text)) r.found)
    ∷ (codes "expected", json.array (elements_of (map (λ word. json.string word.now) r.expected.items)))
    ∷ []))

-- the reports of these errors, in order
pub data AreReportsOf : List CheckError → List ErrorReport → Type 0 where
  no_reports : AreReportsOf [] []
  one_more : {e : CheckError} {r : ErrorReport} {es : List CheckError} {rs : List ErrorReport} → IsReportOf e r
      → AreReportsOf es rs → AreReportsOf (e ∷ es) (r ∷ rs)

-- the text is the array of these errors; their places and lengths are specified, and what they say in words is not
abbrev pub HasReportsJson : List CheckError → (text : List ℕ) → Type 0
HasReportsJson es text =
    (rs : List ErrorReport) × AreReportsOf es rs × (text ≡ json_text (json.array (elements_of (map report_json rs))))

-- the first errors, at most this many; all of them if the number is 0
abbrev pub first_errors : ℕ → List CheckError → List CheckError
first_errors zero es = es
first_errors (suc n) es = take (suc n) es

-- the output is the array of the first errors of the source
abbrev pub HasErrorList : (most : ℕ) → (text output : List ℕ) → Type 0
HasErrorList most text output =
    IsUtf8 text × (es : List CheckError) × HasSourceErrors text es × HasReportsJson (first_errors most es) output
