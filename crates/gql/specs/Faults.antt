-- How the failures of a device are counted.
use Rattle.std.specs.Prelude.{ℕ, ◌+◌, ◌-◌, ◌^◌, ◌<◌, ◌≤◌, ◌⊎◌, min, ◌&&◌, ◌==◌, not, if◌then◌else◌, Result, Ok, Err}

-- one more, up to the largest count
abbrev pub one_more : ℕ → ℕ
one_more n = min (n + 1) (2 ^ 64 - 1)

abbrev pub faults_after_read : {E : Type 0} → ℕ → Result ℕ E → ℕ
faults_after_read n (Ok count) = n
faults_after_read n (Err e) = one_more n

-- a write that took 0 bytes of a non-empty buffer is a failure
abbrev pub faults_after_write : {E : Type 0} → ℕ → Result ℕ E → ℕ → ℕ
faults_after_write n (Ok count) len = if count == 0 && not (len == 0) then one_more n else n
faults_after_write n (Err e) len = one_more n

abbrev pub faults_after_flush : {E : Type 0} → ℕ → Result (Unit {0}) E → ℕ
faults_after_flush n (Ok u) = n
faults_after_flush n (Err e) = one_more n

-- the count grew, or was already at its largest
abbrev pub HasFault : ℕ → ℕ → Type 0
HasFault old new = (old < new) ⊎ (2 ^ 64 - 1 ≤ old)
