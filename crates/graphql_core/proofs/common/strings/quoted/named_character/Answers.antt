use Rattle.std.specs.Char.{IsScalar, is_ascii_hexdigit}
use Rattle.std.proofs.Common.{sym, ap, ◌∙◌, subst}
use Rattle.std.specs.List.{list_all}
use Rattle.std.specs.Str.Parse.{digits_value}
use Rattle.graphql_core.proofs.{boundary_after_name, digits_at}
use Rattle.graphql_core.proofs.common.strings.quoted.named_character.Goals as goal

pub returns-in_err-digits-clause-none : goal.returns-in_err-digits-clause-none
returns-in_err-digits-clause-none c =
    rw c.from_residual.ensures
    (λ digits after k n e. let t = c.in_err-digits.ensures.variant.1 (boundary_after_name c.args.text.now digits after k c.utf8.text n e) in absurd cc)

pub returns-in_err-code-clause-none : goal.returns-in_err-code-clause-none
returns-in_err-code-clause-none c =
    rw c.from_residual-in_err-code.ensures
    (λ digits after k n e. c.in_err-code.ensures
    (ap (list_all is_ascii_hexdigit) (c.in_ok-digits.ensures.front ∙ digits_at c.args.text.now digits after n.four e) ∙ n.hexadecimal))

pub returns-in_err-character-clause-none : goal.returns-in_err-character-clause-none
returns-in_err-character-clause-none c =
    rw c.from_residual-in_err-character.ensures (λ digits after k n e.
    let code = c.in_ok-code.ensures.1 ∙ ap (digits_value 16) (c.in_ok-digits.ensures.front ∙ digits_at c.args.text.now digits after n.four e) ∙ n.value in
    c.in_err-character.ensures.value (subst IsScalar (sym code) n.exists))
