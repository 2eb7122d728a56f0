use Rattle.std.proofs.Common.{◌++◌, ◌∷◌, Some, None, sym, ap, ◌∙◌, arith, drop}
use Rattle.std.proofs.lemmas.Str.Pattern.{strip_prefix_char}
use Rattle.graphql_standard.proofs.lexical.Escapes.{other_digits}
use Rattle.graphql_standard.proofs.tokenizer.string.paired_escape.Goals as goal

pub returns-in_err-strip_prefix-clause-none : goal.returns-in_err-strip_prefix-clause-none
returns-in_err-strip_prefix-clause-none c =
    let none = strip_prefix_char 92 c.args.text.now None c.in_err-strip_prefix.ensures.cases (omega arith) in
    rw c.from_residual.ensures (λ trailing after t l d h e. none (117 ∷ (trailing ++ after)) e)

pub returns-in_err-digits-clause-none : goal.returns-in_err-digits-clause-none
returns-in_err-digits-clause-none c =
    let first = strip_prefix_char 92 c.args.text.now (Some c.in_ok-strip_prefix.field-0) c.in_ok-strip_prefix.ensures.cases (omega arith) in
    let none = strip_prefix_char 117 c.in_ok-strip_prefix.field-0.now None c.in_err-digits.ensures.cases (omega arith) in
    rw c.from_residual-in_err-digits.ensures (λ trailing after t l d h e. none (trailing ++ after) (ap (drop 1) (sym first ∙ e)))

pub returns-then-not-is_trailing-clause-none : goal.returns-then-not-is_trailing-clause-none
returns-then-not-is_trailing-clause-none c trailing after t l d h e =
    let first = strip_prefix_char 92 c.args.text.now (Some c.in_ok-strip_prefix.field-0) c.in_ok-strip_prefix.ensures.cases (omega arith) in
    let second = strip_prefix_char 117 c.in_ok-strip_prefix.field-0.now (Some c.in_ok-digits.digits) c.in_ok-digits.ensures.cases (omega arith) in
    other_digits c.in_ok-digits.digits.now trailing after c.in_ok-trailing.after.now c.in_ok-trailing.trailing t c.in_ok-trailing.ensures.digits d
    (sym c.is_trailing.ensures ∙ c.if-not-is_trailing.true) h (ap (drop 2) (sym (first ∙ ap (λ r. 92 ∷ r) second) ∙ e))
