use Rattle.std.proofs.Common.{◌==◌, arith}
use Rattle.std.proofs.lemmas.Bool.Decides.{nat_tests}
use Rattle.graphql_standard.proofs.Spellings.{other_name}
use Rattle.graphql_standard.proofs.terminal.terminal_of_five.Goals as goal

pub returns-in_default : goal.returns-in_default
returns-in_default c = λ p.
    let d = c.in_default in
    other_name (λ n. n == 5) c.args.spelling.now p (grind (arith, nat_tests, c.requires))
    (d.not-query, (d.not-false, (d.not-union, (d.not-input, (d.not-QUERY, (d.not-FIELD, (d.not-UNION, tt)))))))
