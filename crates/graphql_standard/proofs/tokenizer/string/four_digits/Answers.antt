use Rattle.graphql_standard.proofs.lexical.Escapes.{boundary_after_digits, too_large}
use Rattle.graphql_standard.proofs.tokenizer.string.four_digits.Goals as goal

pub returns-in_err-digits-clause-none : goal.returns-in_err-digits-clause-none
returns-in_err-digits-clause-none c =
    rw c.from_residual.ensures
    (λ digits after value d e. let t = c.in_err-digits.ensures.variant.1 (boundary_after_digits c.args.text.now digits after value c.utf8.text d e) in absurd cc)

pub returns-in_err-code-clause-none : goal.returns-in_err-code-clause-none
returns-in_err-code-clause-none c =
    rw c.from_residual-in_err-code.ensures
    (λ digits after value d e. too_large c.args.text.now digits after c.in_ok-digits.digits.now value d e c.in_ok-digits.ensures.front c.in_err-code.ensures.none)
