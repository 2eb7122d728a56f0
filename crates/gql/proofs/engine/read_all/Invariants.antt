use Rattle.std.proofs.Common.{◌≡◌, ◌≤◌, length}
use Rattle.std.specs.Io.KnownBytes.{Consumes}
use Rattle.gql.proofs.engine.read_all.Given as goal

-- each iteration read at least one byte
abbrev pub invariant-pieces : goal.invariant-pieces
invariant-pieces g l = record {
  capacity : length l.piece ≡ 8192;
  faults_stay : l.reader.faults ≡ l.fn.reader.faults;
  each_one : l.counter ≤ length l.bytes.items;
  taken : Consumes (g.R.Read.remaining l.fn.reader.device) (g.R.Read.remaining l.reader.device) l.bytes.items;
}
