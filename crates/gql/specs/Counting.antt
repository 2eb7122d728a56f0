-- A device whose failures are counted.
use Rattle.std.specs.Prelude.{ℕ}

-- the device, and how many of its calls failed
pub record Counting (D : Type 0) : Type 0 where
  pub device : D
  pub faults : ℕ
