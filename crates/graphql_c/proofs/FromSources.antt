-- What a call for a source returns, from the results of its parts.
use Rattle.std.proofs.Common.{◌≡◌, ◌≢◌, ◌≤◌, ◌∙◌, ℕ, List, length, Ok, Err, inl, inr, ap, subst}
use Rattle.std.proofs.Common.{String, IsUtf8}
use Rattle.std.proofs.lemmas.Bool.{cases_lt}
use Rattle.std.specs.Global.{Global}
use Rattle.graphql_core.specs.{max_length}
use Rattle.graphql_standard.specs.declared.error.CheckError.{CheckError}
use Rattle.graphql_standard.specs.declared.error.CheckError.TheVariants as error
use Rattle.graphql_fmt.specs.{AcceptsDocuments, HasNoToken, HasSameDocuments, HasSourceErrors, KeepsAll, IsTidy}
use Rattle.graphql_fmt.proofs.Formatting.{same_documents}
use Rattle.graphql_c.specs.{IsFormattedSource, IsRejectedSource, HasErrorList, HasReportsJson, first_errors}

module _ (source output : List ℕ) (utf8 : IsUtf8 source) where
  -- a source without a token is formatted
  pub comments_formatted : (length source ≤ max_length) × HasNoToken source × KeepsAll source output → IsTidy output
      → IsFormattedSource source output
  comments_formatted (short, none, kept) tidy = record {
    utf8 = utf8;
    accepted = (short, inl none);
    kept = kept;
    tidy = tidy;
    same_document = same_documents source output kept;
  }

  -- a document is formatted
  pub document_formatted : (v : String Global) → AcceptsDocuments source (Ok v) → KeepsAll source output → IsTidy output
      → HasSameDocuments source output → IsFormattedSource source output
  document_formatted v accepts kept tidy same = record {
    utf8 = utf8;
    accepted = (
      elim (cases_lt max_length (length source)) [ inl long ↦ let past = accepts.too_long long in absurd cc | inr short ↦ short ],
      inr accepts.sound,
    );
    kept = kept;
    tidy = tidy;
    same_document = same;
  }

-- a source that is neither is rejected
pub source_rejected : (source : List ℕ) (e : CheckError) → e ≢ error.OutOfMemory → (length source ≤ max_length → HasNoToken source → ⊥)
    → AcceptsDocuments {A = String Global} source (Err e) → IsRejectedSource source e
source_rejected source e memory tokens accepts = record {
  memory = memory;
  not_accepted = λ (short, which). elim which [ inl none ↦ tokens short none | inr doc ↦ memory (accepts.complete short doc) ];
  error_is = record {
    sound = tt;
    complete = accepts.complete;
    first_error = accepts.first_error;
    too_long = λ long. let past = accepts.too_long long in let same : e ≡ error.TooLong = cc in ap Err same;
  };
}

-- the first errors of a source
pub listed : (most : ℕ) (text source output : List ℕ) (es items first : List CheckError) → (source ≡ text) × IsUtf8 text
    → HasSourceErrors source es → items ≡ es → first ≡ first_errors most items → HasReportsJson first output → HasErrorList most text output
listed most text source output es items first (same, utf8) errors value is json =
    (utf8, es, subst (λ t. HasSourceErrors t es) same errors, subst (λ l. HasReportsJson l output) (is ∙ ap (first_errors most) value) json)
