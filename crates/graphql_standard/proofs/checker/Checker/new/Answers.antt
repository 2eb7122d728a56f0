use Rattle.std.proofs.Common.{refl, arith}
use Rattle.graphql_standard.proofs.Checking.{none_read}
use Rattle.graphql_standard.proofs.checker.Checker.new.Goals as goal

pub returns-clause-checked : goal.returns-clause-checked
returns-clause-checked c = record {
  source_is = refl;
  short = omega (arith, c.if-source-gt-MAX_LENGTH.false);
  parts = refl;
  tokens = none_read c.args.limit _ refl c.in_ok-recognizer.ensures refl refl;
}
