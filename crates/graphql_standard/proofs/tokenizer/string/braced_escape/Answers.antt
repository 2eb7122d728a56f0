use Rattle.std.proofs.Common.{ℕ, ◌∷◌, Some, None, sym, subst, arith}
use Rattle.std.proofs.lemmas.Str.Pattern.{split_parts}
use Rattle.graphql_standard.specs.steps.Escapes.{BeginsEscape}
use Rattle.graphql_standard.proofs.lexical.Escapes.{no_closing_brace, too_large_in_braces, no_character_in_braces, braced_begins}
use Rattle.graphql_standard.proofs.tokenizer.string.braced_escape.Goals as goal

pub returns-in_err-digits-clause-none : goal.returns-in_err-digits-clause-none
returns-in_err-digits-clause-none c =
    rw c.from_residual.ensures (no_closing_brace c.args.text.now (split_parts 125 c.args.text.now None c.in_err-digits.ensures.cases (omega arith)))

pub returns-in_err-code-clause-none : goal.returns-in_err-code-clause-none
returns-in_err-code-clause-none c =
    let (is, none) = split_parts 125 c.args.text.now (Some (c.in_ok-digits.digits, c.in_ok-digits.after)) c.in_ok-digits.ensures.cases (omega arith) in
    rw c.from_residual-in_err-code.ensures
    (too_large_in_braces c.args.text.now c.in_ok-digits.digits.now c.in_ok-digits.after.now is none c.in_err-code.ensures.none)

pub returns-in_err-character-clause-none : goal.returns-in_err-character-clause-none
returns-in_err-character-clause-none c =
    let (is, none) = split_parts 125 c.args.text.now (Some (c.in_ok-digits.digits, c.in_ok-digits.after)) c.in_ok-digits.ensures.cases (omega arith) in
    rw c.from_residual-in_err-character.ensures
    (no_character_in_braces c.args.text.now c.in_ok-digits.digits.now c.in_ok-digits.after.now c.in_ok-code.code is none c.in_ok-code.ensures.value
    c.in_err-character.ensures.value)

pub returns-clause-escapes : goal.returns-clause-escapes
returns-clause-escapes c =
    let (is, none) = split_parts 125 c.args.text.now (Some (c.in_ok-digits.digits, c.in_ok-digits.after)) c.in_ok-digits.ensures.cases (omega arith) in
    subst (λ (k : ℕ). BeginsEscape (117 ∷ 123 ∷ c.args.text.now) k c.in_ok-digits.after.now) (sym c.in_ok-character.ensures.value.1)
    (braced_begins c.args.text.now c.in_ok-digits.digits.now c.in_ok-digits.after.now c.in_ok-code.code is c.in_ok-code.ensures.some c.in_ok-code.ensures.value
    c.in_ok-character.ensures.value.0)
