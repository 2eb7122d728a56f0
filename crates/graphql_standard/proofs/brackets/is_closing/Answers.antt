use Rattle.std.proofs.Common.{nat_lt, refl, sym, arith}
use Rattle.std.proofs.lemmas.Bool.Decides.{nat_tests}
use Rattle.graphql_standard.specs.Checking.{closing_brackets}
use Rattle.graphql_standard.proofs.Spellings.{is_listed-length}
use Rattle.graphql_standard.proofs.brackets.is_closing.Goals as goal

pub returns-in_default-matches-3 : goal.returns-in_default-matches-3
returns-in_default-matches-3 c =
    rw c.in-Punctuator.is
    (sym (is_listed-length (λ n. nat_lt 1 n) c.args.spelling.now closing_brackets
    (grind (arith, nat_tests, c.as_bytes.ensures.len, c.in_default-matches.len_at_least)) refl))
