-- The errors of a source, from the results of its parts.
use Rattle.std.proofs.Common.{ℕ, List, [], ◌∷◌, length, Ok, Err, inl, inr, arith}
use Rattle.std.proofs.lemmas.Bool.{cases_lt}
use Rattle.graphql_core.specs.{max_length}
use Rattle.graphql_standard.specs.AllErrors.{HasErrors, no_error, last_error, more_errors}
use Rattle.graphql_standard.specs.Checking.{ChecksStandard}
use Rattle.graphql_standard.specs.declared.error.CheckError.{CheckError}
use Rattle.graphql_standard.specs.declared.error.CheckError.TheVariants as error
use Rattle.graphql_fmt.specs.{IsAccepted, IsParsedDocument, IsStandardDocument, HasNoToken, HasSourceErrors, max_open}
use Rattle.graphql_fmt.specs.Reporting.{accepted, rejected}

-- a source that is not accepted has the errors of its parts
pub rejected_with : (source : List ℕ) (es : List CheckError) → (IsStandardDocument source → ⊥) → (IsAccepted source → ⊥)
    → HasErrors max_open source source es → HasSourceErrors source es
rejected_with source [] other none (no_error right) = absurd (other right)
rejected_with source (e ∷ es) other none (last_error is last) = rejected none (last_error is last)
rejected_with source (e ∷ es) other none (more_errors is on more) = rejected none (more_errors is on more)

-- a source that is neither of three kinds is not accepted
pub not_accepted : (source : List ℕ) → (HasNoToken source → ⊥) → (IsStandardDocument source → ⊥) → (IsParsedDocument source → ⊥)
    → IsAccepted source → ⊥
not_accepted source tokens other parsed (short, inl none) = tokens none
not_accepted source tokens other parsed (short, inr (inl doc)) = other doc
not_accepted source tokens other parsed (short, inr (inr doc)) = parsed doc

module _ {A : Type 0} (source : List ℕ) where
  -- a source that is a document
  pub accepted_as : (v : A) → ChecksStandard max_open source (Ok v) → HasSourceErrors source []
  accepted_as v checks = elim (cases_lt max_length (length source)) [
    | inl long ↦ let past = checks.too_long long in absurd cc
    | inr short ↦ accepted (short, inr (inl checks.sound))
  ]

  -- a source that is too long
  pub too_long_as : ChecksStandard {A = A} max_open source (Err error.TooLong) → HasSourceErrors source (error.TooLong ∷ [])
  too_long_as checks = rejected (λ (short, is). absurd (omega (arith, short, checks.first_error))) (last_error ((λ e. absurd cc), checks.first_error) (λ p e. absurd cc))
