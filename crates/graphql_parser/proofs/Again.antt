-- The result if an input is parsed that has a document, ignoring positions, and the error is mapped.
use Rattle.std.proofs.Common.{◌≡◌, ◌<◌, ◌⊎◌, ℕ, List, length, Result, Ok, Err, MatchResult, IfOk, inl, inr, ap, subst, ◌∙◌}
use Rattle.std.specs.Result.{IsErrAnd}
use Rattle.std.proofs.lemmas.Bool.{cases_lt}
use Rattle.graphql_core.specs.{ParseFailure, no_memory, max_length, too_long, ParsesBackTo, ParsesDocument, Language}

module _ {D V L : Type 0} {l : Language D} {view : V → D} {text bytes : List ℕ} where
  -- the document but for positions
  pub same_again : (lost : ParseFailure → L) (d : D) (r : Result V ParseFailure) (s : Result V L) → text ≡ bytes → ParsesBackTo l bytes d → ParsesDocument l view text r
      → MatchResult r (λ v. s ≡ Ok v) (λ e. IsErrAnd s (λ y. y ≡ lost e)) → IfOk s (λ v. l.erase (view v) ≡ l.erase d)
  same_again lost d (Ok v) s here (e, has, same) parses is = rw is (
      elim (cases_lt max_length (length text)) [
        | inl long ↦ let past = parses.too_long long in absurd cc
        | inr short ↦ ap l.erase (parses.complete e short (rw here has)) ∙ same
      ]
      )
  same_again lost d (Err e) (Err y) here back parses is = tt
  same_again lost d (Err e) (Ok v) here back parses is = absurd is

  -- or an allocation failed, or the text is too long
  pub lost_again : (lost : ParseFailure → L) (d : D) (r : Result V ParseFailure) {s : Result V L} → ((e f : ParseFailure) → lost e ≡ lost f → e ≡ f) → text ≡ bytes
      → ParsesBackTo l bytes d → ParsesDocument l view text r → MatchResult r (λ v. s ≡ Ok v) (λ e. IsErrAnd s (λ y. y ≡ lost e))
      → (f : ParseFailure) → s ≡ Err (lost f) → (f ≡ no_memory) ⊎ ((max_length < length bytes) × (f ≡ too_long))
  lost_again lost d (Ok v) one here back parses is f failed = absurd (cc (is, failed))
  lost_again lost d (Err e) one here (back, has, same) parses is f failed =
      let stated : f ≡ e = one f e (subst (λ t. IsErrAnd t (λ y. y ≡ lost e)) failed is) in
      elim (cases_lt max_length (length text)) [
        | inl long ↦ let past = parses.too_long long in inr (rw here at long, cc)
        | inr short ↦ inl (stated ∙ parses.complete back short (rw here has))
      ]
