-- What an error states.
use Rattle.std.proofs.Common.{◌≡◌, Option, Some, None, Result, Ok, Err, IsErrAnd, refl, sym, ap, subst}
use Rattle.graphql_core.specs.{Place, CauseText, FaultText, IsOutOfMemoryOr, IsOutOfMemoryOrAt, at, no_memory, ParseFailure}

-- what holds of `OutOfMemory`, and of each error that satisfies P, holds of r
pub by_fault : (P : FaultText → Type 0) (Q : ParseFailure → Type 0) → Q no_memory → ((f : FaultText) → P f → Q (at f)) → (r : ParseFailure) → IsOutOfMemoryOr P r → Q r
by_fault P Q none some r = stated r.cause r.place
  where
    stated : (c : CauseText) (p : Option Place) → IsOutOfMemoryOrAt P c p → Q (record { cause = c; place = p })
    stated c (Some p) h = some (record { cause = c; place = p }) h
    stated c None h = subst (λ (k : CauseText). Q (record { cause = k; place = None })) (sym h) none

pub weaker_error : (P Q : FaultText → Type 0) → ((f : FaultText) → P f → Q f) → (r : ParseFailure) → IsOutOfMemoryOr P r → IsOutOfMemoryOr Q r
weaker_error P Q = by_fault P (IsOutOfMemoryOr Q) refl

-- if there is no such error, the error is `OutOfMemory`
pub only_out_of_memory : (P : FaultText → Type 0) → ((f : FaultText) → P f → ⊥) → (r : ParseFailure) → IsOutOfMemoryOr P r → r ≡ no_memory
only_out_of_memory P not = by_fault P (λ (r : ParseFailure). r ≡ no_memory) refl (λ f h. absurd (not f h))

-- the error that `?` propagates
pub as_error : {V E : Type 0} (r : Result V E) (e : E) → IsErrAnd r (λ y. y ≡ e) → Err e ≡ r
as_error (Ok v) e h = absurd h
as_error (Err y) e h = ap Err (sym h)
