use Rattle.std.proofs.Common.{nat_lt, arith}
use Rattle.std.proofs.lemmas.Bool.Decides.{nat_tests}
use Rattle.graphql_standard.proofs.Spellings.{other_name}
use Rattle.graphql_standard.proofs.terminal.terminal_of_three_or_less.Goals as goal

pub returns-in_default : goal.returns-in_default
returns-in_default c = λ p.
    let d = c.in_default in
    other_name (λ n. nat_lt n 4) c.args.spelling.now p (grind (arith, nat_tests, c.requires))
    (d.not-on, tt)
