use Rattle.std.proofs.Common.{◌≡◌, ◌∙◌, length, sym, arith}
use Rattle.std.proofs.lemmas.Bool.Decides.{nat_tests}
use Rattle.graphql_core.proofs.{plain_in_quotes}
use Rattle.graphql_core.proofs.format.print.quotes.is_plain.Goals as goal

pub returns-clause-in_quotes : goal.returns-clause-in_quotes
returns-clause-in_quotes c stated =
    let text = c.args.text.now in
    let whole : c.unescaped_len.result ≡ length text = grind (arith, nat_tests) in
    plain_in_quotes text (sym c.unescaped_len.ensures.len ∙ whole)
