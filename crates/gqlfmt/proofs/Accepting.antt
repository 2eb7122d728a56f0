-- Which inputs are accepted, from what formatting returned.
use Rattle.std.proofs.Common.{◌≡◌, ◌≢◌, ◌≤◌, ℕ, List, length, Option, Some, None, Result, Ok, Err, IfOk, String, inl, inr, sym, subst, ◌∙◌, IfSome}
use Rattle.std.specs.Global.{Global}
use Rattle.std.proofs.lemmas.Bool.{cases_lt}
use Rattle.graphql_core.specs.{max_length}
use Rattle.graphql_standard.specs.declared.error.CheckError.{CheckError}
use Rattle.graphql_standard.specs.declared.error.CheckError.TheVariants.{OutOfMemory}
use Rattle.gqlfmt.specs.declared.arguments.Task.{Task}
use Rattle.gqlfmt.specs.declared.action.Action.{Action}
use Rattle.gqlfmt.specs.declared.action.Action.TheVariants as action
use Rattle.gqlfmt.specs.{IsActionFor, IsActionOn, IsFormattedOf}
use Rattle.graphql_fmt.specs.{AcceptsDocuments, HasNoToken, IsAccepted, IsTidy}

module _ (source : List ℕ) where
  pub accepted : (s : String Global) → AcceptsDocuments source (Ok s) → IsAccepted source
  accepted s accepts = (
    elim (cases_lt max_length (length source)) [ inl long ↦ let past = accepts.too_long long in absurd cc | inr short ↦ short ],
    inr accepts.sound,
  )

  pub rejected : (e : CheckError) → e ≢ OutOfMemory → (length source ≤ max_length → HasNoToken source → ⊥)
      → AcceptsDocuments {A = String Global} source (Err e) → IsAccepted source → ⊥
  rejected e other some accepts (short, inl none) = some short none
  rejected e other some accepts (short, inr doc) = other (accepts.complete short doc)

-- what is done with a formatted text of an accepted source
fits : (t : Task) (source : List ℕ) (a : Action) (formatted : List ℕ) → IsActionFor t source formatted a
    → IsAccepted source → IsFormattedOf source formatted → IsActionOn t source a
fits t source action.Keep formatted is taken (keeps, tidy) = (is.0, taken, subst IsTidy is.1 tidy)
fits t source (action.Print text) formatted is taken new = (is.0, taken, subst (IsFormattedOf source) (sym is.1) new)
fits t source (action.Report text) formatted is taken new = (is.0, taken)
fits t source (action.Replace text) formatted is taken new =
    (is.0, taken, subst (IsFormattedOf source) (sym is.1) new, λ same. is.2 (sym is.1 ∙ same))
fits t source (action.Reject message) formatted is taken new = absurd is

-- the same of an action that a call returns
pub all_fit : {E : Type 0} (r : Result Action E) (t : Task) (source formatted : List ℕ) → IfOk r (IsActionFor t source formatted)
    → IsAccepted source → IsFormattedOf source formatted → IfOk r (IsActionOn t source)
all_fit (Ok a) t source formatted is taken new = fits t source a formatted is taken new
all_fit (Err e) t source formatted is taken new = tt

pub at_some : {A : Type 0} (P : A → Type 0) (o : Option A) (x : A) → o ≡ Some x → IfSome o P → P x
at_some P o x is h = subst (λ p. IfSome p P) is h

pub for_input : (o : Option (List ℕ)) (Q : List ℕ → Type 0) (text : List ℕ) → IfSome o (λ s. text ≡ s) → Q text → IfSome o Q
for_input None Q text is q = tt
for_input (Some s) Q text is q = subst Q is q
