use Rattle.std.proofs.Common.{◌==◌, ◌||◌, arith}
use Rattle.std.proofs.lemmas.Bool.Decides.{nat_tests}
use Rattle.graphql_standard.proofs.Spellings.{other_name}
use Rattle.graphql_standard.proofs.terminal.terminal_of_seven_to_ten.Goals as goal

pub returns-in_default : goal.returns-in_default
returns-in_default c = λ p.
    let d = c.in_default in
    other_name (λ n. (n == 7) || ((n == 8) || ((n == 9) || (n == 10)))) c.args.spelling.now p (grind (arith, nat_tests, c.requires.0, c.requires.1)) (
      d.not-mutation,
      (
        d.not-fragment,
        (
          d.not-interface,
          (
            d.not-directive,
            (
              d.not-implements,
              (
                d.not-repeatable,
                (d.not-MUTATION, (d.not-INTERFACE, (d.not-ENUM_VALUE, tt))),
              ),
            ),
          ),
        ),
      ),
    )
