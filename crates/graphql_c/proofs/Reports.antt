-- Reports of errors, and their texts.
use Rattle.std.proofs.Common.{◌≡◌, ◌++◌, [], ◌∙◌, ℕ, List, ap, append_assoc, append-nil, codes, map}
use Rattle.graphql_standard.specs.declared.error.CheckError.{CheckError}
use Rattle.graphql_fmt.specs.declared.reports.ErrorReport.{ErrorReport}
use Rattle.graphql_json.specs.steps.Pieces.{Appends}
use Rattle.graphql_json.specs.Nodes.{elements_of}
use Rattle.graphql_json.specs.Json.{json_text, members_text}
use Rattle.graphql_json.specs.Json as json
use Rattle.graphql_c.specs.Sources.{AreReportsOf, HasReportsJson, report_json}
use Rattle.graphql_c.specs.steps.{numbers_text, inner_text, words_text}

-- the object of an error is its members between braces
pub report_text : (r : ErrorReport)
    → (((codes "{" ++ numbers_text r) ++ inner_text r.inner) ++ words_text r) ++ codes "}" ≡ json_text (report_json r)
unfolding numbers_text inner_text words_text json_text members_text report_json
report_text r = simp (append_assoc, append-nil)

-- the array of the reports
pub reports_text : (es : List CheckError) (rs items : List ErrorReport) (old new text : List ℕ) → AreReportsOf es rs → items ≡ rs → old ≡ []
    → Appends old (json_text (json.array (elements_of (map report_json items)))) new → text ≡ new → HasReportsJson es text
reports_text es rs items old new text are value none appends is = (
  rs,
  are,
  is ∙ appends.grown ∙ ap (λ s. s ++ json_text (json.array (elements_of (map report_json items)))) none
      ∙ ap (λ l. json_text (json.array (elements_of (map report_json l)))) value,
)
