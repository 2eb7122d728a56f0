-- What `map_err` returns, and `?` after it.
use Rattle.std.proofs.Common.{◌≡◌, ◌∙◌, Result, Ok, Err, MatchResult, IfOk, IfErr, sym, ap, subst, true≢false}
use Rattle.std.specs.Result.{IsErrAnd, is_ok}
use Rattle.std.proofs.lemmas.Result.{IfOk-at_ok, IfErr-at_err}

module _ {T E F : Type 0} where
  -- a value passes as it is
  pub ok_before : {r : Result T E} {s : Result T F} {x : T} (P : E → Type 0) → MatchResult r (λ v. s ≡ Ok v) P → is_ok s ≡ is_ok r → s ≡ Ok x → r ≡ Ok x
  ok_before {r = Ok v} P same kind is = cc (same, is)
  ok_before {r = Err e} P failed kind is = absurd (true≢false (sym (ap is_ok is) ∙ kind))

  -- of which holds what held of it before
  pub at_passed : (r : Result T E) {s : Result T F} {x : T} (P : E → Type 0) (Q : T → Type 0) → MatchResult r (λ v. s ≡ Ok v) P → is_ok s ≡ is_ok r
      → s ≡ Ok x → IfOk r Q → Q x
  at_passed r P Q cases kind is h = IfOk-at_ok Q (ok_before P cases kind is) h

  -- and so where the result is passed on, and an error is what the function makes of the error before
  pub mapped : (r : Result T E) (s : Result T F) (f : E → F) (P : T → Type 0) (Q : F → Type 0)
      → MatchResult r (λ v. s ≡ Ok v) (λ e. IsErrAnd s (λ y. y ≡ f e)) → MatchResult r P (λ e. Q (f e)) → MatchResult s P Q
  mapped (Ok v) s f P Q same h = subst (λ t. MatchResult t P Q) (sym same) h
  mapped (Err e) (Ok v) f P Q failed h = absurd failed
  mapped (Err e) (Err y) f P Q same h = subst Q (sym same) h

-- what is said of an error holds of the one that `?` returns
pub returned : {T A F : Type 0} {s : Result T F} {x : F} (r : Result A F) (P : A → Type 0) (Q : F → Type 0) → s ≡ Err x → IfErr s Q
    → IsErrAnd r (λ y. y ≡ x) → MatchResult r P Q
returned (Ok v) P Q is h failed = absurd failed
returned (Err y) P Q is h failed = subst Q (sym failed) (IfErr-at_err Q is h)
