-- What a result states about its input.
use Rattle.std.proofs.Common.{◌≡◌, ◌<◌, ◌≤◌, ℕ, List, length, Result, Ok, Err, IfOk, IfErr, IsErrOf, inl, inr}
use Rattle.std.proofs.lemmas.Bool.{cases_lt}
use Rattle.graphql_core.specs.{ParseFailure, max_length, IsDocumentOf, ReturnsUnlessOutOfMemory, IsErrorOf, ParsesDocument, HasNone, Language}
use Rattle.graphql_core.specs.declared.format.error.FormatError.{FormatError}
use Rattle.graphql_core.specs.declared.format.error.FormatError.TheVariants.{TooWide}

-- ---- errors

-- an error is `OutOfMemory`, or the input has more than `MAX_LENGTH` bytes or none of what is sought
pub has_none : {D T V : Type 0} (Has : List ℕ → T → Type 0) (l : Language D) (view : V → T) (text : List ℕ) (r : Result V ParseFailure)
    → IfErr r (IsErrorOf l text) → ((t : T) → length text ≤ max_length → Has text t → ReturnsUnlessOutOfMemory view t r) → IfErr r (HasNone Has l text)
has_none Has l view text (Ok v) rejected complete = tt
has_none Has l view text (Err e) rejected complete = (
  rejected,
  λ other. elim (cases_lt max_length (length text)) [
    | inl long ↦ inl long
    | inr short ↦ inr (λ t is. other (complete t short is))
  ],
)

pub none_parsed : {D V : Type 0} {l : Language D} {view : V → D} {text : List ℕ} {r : Result V ParseFailure} → ParsesDocument l view text r
    → IfErr r (HasNone (IsDocumentOf l) l text)
none_parsed {l = l} {view = view} {text = text} {r = r} parses = has_none (IsDocumentOf l) l view text r parses.first_error parses.complete

-- ---- values

-- a call that rejects texts that are too long returns a value only for one of at most `max_length` bytes
pub not_long : {A E : Type 0} {e : E} (text : List ℕ) (r : Result A E) → (max_length < length text → IsErrOf r e) → IfOk r (λ x. length text ≤ max_length)
not_long text (Err y) rejects = tt
not_long {e = e} text (Ok x) rejects = elim (cases_lt max_length (length text)) [ inl long ↦ absurd (other (rejects long)) | inr within ↦ within ]
  where
    other : Ok x ≡ Err e → ⊥
    other h = cc

-- a document that was formatted is not too wide
pub not_wide : {A W : Type 0} (made : Result A FormatError) → (W → IsErrOf made TooWide) → IfOk made (λ x. W → ⊥)
not_wide (Err y) rejects = tt
not_wide (Ok x) rejects = λ wide. other (rejects wide)
  where
    other : Ok x ≡ Err TooWide → ⊥
    other h = cc
