use Rattle.std.proofs.Common.{◌≡◌, ◌≤◌, ◌+◌, ◌++◌, length, List, ℕ}
use Rattle.std.specs.Io.KnownBytes.{Appends}
use Rattle.gql.proofs.engine.write_all.Given as goal

abbrev pub invariant-pieces : goal.invariant-pieces
invariant-pieces g l = record {
  each_one : l.counter + length l.rest ≤ length l.fn.bytes;
  faults_stay : l.writer.faults ≡ l.fn.writer.faults;
  written : (front : List ℕ) × (l.fn.bytes ≡ front ++ l.rest) × Appends (g.W.Write.contents l.fn.writer.device) (g.W.Write.contents l.writer.device) front;
}
