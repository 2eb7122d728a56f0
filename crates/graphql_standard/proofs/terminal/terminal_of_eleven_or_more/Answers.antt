use Rattle.std.proofs.Common.{nat_lt, arith}
use Rattle.std.proofs.lemmas.Bool.Decides.{nat_tests}
use Rattle.graphql_standard.proofs.Spellings.{other_name}
use Rattle.graphql_standard.proofs.terminal.terminal_of_eleven_or_more.Goals as goal

pub returns-in_default : goal.returns-in_default
returns-in_default c = λ p.
    let d = c.in_default in
    other_name (λ n. nat_lt 10 n) c.args.spelling.now p (grind (arith, nat_tests, c.requires)) (
      d.not-subscription,
      (
        d.not-SUBSCRIPTION,
        (
          d.not-FRAGMENT_DEFINITION,
          (
            d.not-FRAGMENT_SPREAD,
            (
              d.not-INLINE_FRAGMENT,
              (
                d.not-VARIABLE_DEFINITION,
                (
                  d.not-FIELD_DEFINITION,
                  (
                    d.not-ARGUMENT_DEFINITION,
                    (d.not-INPUT_OBJECT, (d.not-INPUT_FIELD_DEFINITION, tt)),
                  ),
                ),
              ),
            ),
          ),
        ),
      ),
    )
