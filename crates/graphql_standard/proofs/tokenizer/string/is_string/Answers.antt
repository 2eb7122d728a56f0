use Rattle.std.proofs.Common.{◌++◌, ◌∷◌, [], Some, None, ap, ◌∙◌, arith}
use Rattle.std.proofs.lemmas.Str.Pattern.{strip_prefix_char, strip_suffix_char}
use Rattle.graphql_standard.proofs.tokenizer.string.is_string.Goals as goal

pub returns-in-None-clause-invalid : goal.returns-in-None-clause-invalid
returns-in-None-clause-invalid c _ (body, is, h) = strip_prefix_char 34 c.args.text.now None c.in-None.ensures.cases (omega arith) (body ++ 34 ∷ []) is

pub returns-in-Some-strip_suffix-clause-valid : goal.returns-in-Some-strip_suffix-clause-valid
returns-in-Some-strip_suffix-clause-valid c stated =
    let first = strip_prefix_char 34 c.args.text.now (Some c.in-Some.rest) c.in-Some.ensures.cases (omega arith) in
    let last = strip_suffix_char 34 c.in-Some.rest.now (Some c.in-Some-strip_suffix.body) c.in-Some-strip_suffix.ensures.cases (omega arith) in
    (c.in-Some-strip_suffix.body.now, first ∙ ap (λ r. 34 ∷ r) last, c.is_string_body.ensures.valid stated)
