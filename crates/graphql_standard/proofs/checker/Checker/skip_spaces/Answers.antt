use Rattle.std.proofs.Common.{refl}
use Rattle.graphql_standard.proofs.Checking.{spaces_read}
use Rattle.graphql_standard.proofs.checker.Checker.skip_spaces.Goals as goal

pub returns-clause-spaces : goal.returns-clause-spaces
returns-clause-spaces c = λ limit source ps h. spaces_read limit source ps _ c.args.self.now _ h c.after_spaces-count.ensures refl refl refl refl
