use Rattle.std.proofs.Common.{◌∷◌, ℕ, None, sym, subst, arith}
use Rattle.std.proofs.lemmas.Str.Pattern.{strip_prefix_char}
use Rattle.graphql_standard.specs.steps.Escapes.{BeginsEscape}
use Rattle.graphql_standard.proofs.lexical.Escapes.{names_begins, pair_begins, no_unicode, no_pair_result}
use Rattle.graphql_standard.proofs.tokenizer.string.unicode_escape.Goals as goal

pub returns-in_err-code-clause-none : goal.returns-in_err-code-clause-none
returns-in_err-code-clause-none c =
    rw c.from_residual.ensures
    (no_unicode c.args.text.now (strip_prefix_char 123 c.args.text.now None c.in_default.ensures.cases (omega arith)) c.in_err-code.ensures.none)

pub returns-in-Some-from_u32-clause-escapes : goal.returns-in-Some-from_u32-clause-escapes
returns-in-Some-from_u32-clause-escapes c =
    subst (λ (k : ℕ). BeginsEscape (117 ∷ c.args.text.now) k c.in_ok-code.after.now) (sym c.in-Some-from_u32.ensures.value.1)
    (names_begins c.args.text.now c.in_ok-code.after.now c.in_ok-code.code c.in_ok-code.ensures.digits c.in-Some-from_u32.ensures.value.0)

pub returns-in-None-clause-escapes : goal.returns-in-None-clause-escapes
returns-in-None-clause-escapes c =
    pair_begins c.args.text.now c.in_ok-code.after.now c.in_ok-code.code c.paired_escape.result c.in_ok-code.ensures.digits c.paired_escape.ensures.pairs

pub returns-in-None-clause-none : goal.returns-in-None-clause-none
returns-in-None-clause-none c =
    no_pair_result c.args.text.now c.in_ok-code.after.now c.in_ok-code.code c.paired_escape.result c.in_ok-code.ensures.digits c.in-None.ensures.value
    c.paired_escape.ensures.none
