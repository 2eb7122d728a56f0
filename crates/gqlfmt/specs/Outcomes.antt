-- The outcomes that were counted, and the exit status.
use Rattle.std.specs.Prelude.{◌≡◌, ◌⊎◌, ℕ, ◌+◌, ◌-◌, ◌^◌, ◌<◌, ◌≤◌, min}
use Rattle.gqlfmt.specs.declared.outcome.Tally.{Tally}
use Rattle.gqlfmt.specs.declared.outcome.Outcome.{Outcome}
use Rattle.gqlfmt.specs.declared.outcome.Outcome.TheVariants.{Printed, Unchanged, Differs, Rewritten, Rejected, Failed}

-- one more, up to the largest count
abbrev pub one_more : ℕ → ℕ
one_more n = min (n + 1) (2 ^ 64 - 1)

-- how many inputs had an outcome
abbrev pub times : Tally → Outcome → ℕ
times t Printed = t.printed
times t Unchanged = t.unchanged
times t Differs = t.differing
times t Rewritten = t.rewritten
times t Rejected = t.rejected
times t Failed = t.failed

-- the exit status if an outcome is the only one
abbrev pub status_of : Outcome → ℕ
status_of Printed = 0
status_of Unchanged = 0
status_of Differs = 1
status_of Rewritten = 0
status_of Rejected = 1
status_of Failed = 2

-- the largest status of the outcomes that were counted, or 0
pub record IsWorst (t : Tally) (status : ℕ) : Type 0 where
  pub bounds : (o : Outcome) → 0 < times t o → status_of o ≤ status
  pub reached : (status ≡ 0) ⊎ ((o : Outcome) × (0 < times t o) × (status_of o ≡ status))
