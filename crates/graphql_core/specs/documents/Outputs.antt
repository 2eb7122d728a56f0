-- In any language: the output for what an input holds, or why there is no output.
use Rattle.std.specs.Prelude.{◌≡◌, ◌≢◌, ◌<◌, ◌⊎◌, ℕ, List, length}
use Rattle.graphql_core.specs.sources.{ParseFailure, no_memory, max_length}
use Rattle.graphql_core.specs.documents.Languages.{Language}
use Rattle.graphql_core.specs.documents.Faults.{IsErrorOf}

module _ {T : Type 0} (Has : List ℕ → T → Type 0) where
  -- `Has text t` holds for some `t`, and the output is `written t`
  abbrev pub IsWrittenOf : (T → List ℕ) → List ℕ → List ℕ → Type 0
  IsWrittenOf written text output = (t : T) × Has text t × (output ≡ written t)

  -- The input is rejected with this error. If the error is not out of memory, the input is too long,
  -- or `Has text t` holds for no `t`.
  abbrev pub HasNone : {D : Type 0} → Language D → List ℕ → ParseFailure → Type 0
  HasNone l text e = IsErrorOf l text e × (e ≢ no_memory → (max_length < length text) ⊎ ((t : T) → Has text t → ⊥))

  -- `Has text t` holds for some `t` that is too wide
  abbrev pub IsWide : (T → Type 0) → List ℕ → Type 0
  IsWide IsTooWide text = (t : T) × Has text t × IsTooWide t

  -- `Has text t` holds, and this `t` is not too wide
  abbrev pub HasNarrow : (T → Type 0) → List ℕ → T → Type 0
  HasNarrow IsTooWide text t = Has text t × (IsTooWide t → ⊥)
