-- UTF-8 at the end of UTF-8.
use Rattle.std.proofs.Common.{◌≡◌, ℕ, zero, suc, ◌<◌, List, [], ◌∷◌, ◌++◌, Bool, true, false, Result, Ok, Err, OnOk, OnErr, get_or, arith}
use Rattle.std.proofs.lemmas.Str.{IsUtf8-append, IsUtf8-nil, IsUtf8-from_ascii}
use Rattle.std.specs.Str.{IsUtf8}
use Rattle.graphql_core.specs.{space_if}

-- What is unchanged on an error, and otherwise has UTF-8 appended, stays UTF-8.
pub appended_utf8 : {A E : Type 0} (r : Result A E) {old new more : List ℕ} → IsUtf8 old → IsUtf8 more → OnOk r (new ≡ old ++ more)
    → OnErr r (new ≡ old) → IsUtf8 new
appended_utf8 (Ok a) h k text kept = rw text (IsUtf8-append _ _ h k)
appended_utf8 (Err e) h k text kept = rw kept h

is_ascii : (i : ℕ) → get_or (32 ∷ []) i 0 < 128
is_ascii zero = omega arith
is_ascii (suc i) = omega arith

pub space_utf8 : (s : Bool) → IsUtf8 (space_if s)
space_utf8 true = IsUtf8-from_ascii (32 ∷ []) is_ascii
space_utf8 false = IsUtf8-nil
