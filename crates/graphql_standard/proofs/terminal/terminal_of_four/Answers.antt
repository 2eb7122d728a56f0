use Rattle.std.proofs.Common.{◌==◌, arith}
use Rattle.std.proofs.lemmas.Bool.Decides.{nat_tests}
use Rattle.graphql_standard.proofs.Spellings.{other_name}
use Rattle.graphql_standard.proofs.terminal.terminal_of_four.Goals as goal

pub returns-in_default : goal.returns-in_default
returns-in_default c = λ p.
    let d = c.in_default in
    other_name (λ n. n == 4) c.args.spelling.now p (grind (arith, nat_tests, c.requires))
    (d.not-true, (d.not-null, (d.not-type, (d.not-enum, (d.not-ENUM, tt)))))
