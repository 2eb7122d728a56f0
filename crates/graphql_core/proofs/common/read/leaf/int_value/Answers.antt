use Rattle.std.proofs.Common.{◌∙◌}
use Rattle.graphql_core.specs.{Leaf}
use Rattle.graphql_core.specs.declared.tokenizer.token.Kind.TheVariants.{IntValue}
use Rattle.graphql_core.proofs.{integer_parsed, not_parsed, not_shown, next_spelled, next_taken, next_rejected}
use Rattle.graphql_core.proofs.common.read.leaf.int_value.Goals as goal

pub returns-in_err-token : goal.returns-in_err-token
returns-in_err-token g c = not_shown g.S.TokenSource.bytes IntValue _ _ _ c.in_err-token.field-0.0 c.in_err-token.ensures c.from_residual.ensures.1

pub returns-in_default : goal.returns-in_default
returns-in_default g c =
    let t = c.in_ok-token.token in
    let n = c.in_ok-token.ensures in
    let spelled = next_spelled g.S.TokenSource.bytes IntValue (g.S.TokenSource.items c.args.source.now) t n in
    next_rejected g.S.TokenSource.bytes IntValue (g.S.TokenSource.items c.args.source.now) t n
    (not_parsed c.as_str.result.now (g.S.TokenSource.bytes t.text) c.as_str.ensures spelled c.in_default.ensures.value.0)

pub returns : goal.returns
returns g c =
    let t = c.in_ok-token.token in
    let n = c.in_ok-token.ensures in
    let spelled = next_spelled g.S.TokenSource.bytes IntValue (g.S.TokenSource.items c.args.source.now) t n in
    let (fits, value) = integer_parsed c.as_str.result.now (g.S.TokenSource.bytes t.text) c.in-Ok.value c.as_str.ensures spelled c.in-Ok.ensures.value.0 in
    (Leaf _, next_taken g.S.TokenSource.bytes IntValue _ t n _ fits c.advance.ensures, c.from_i64.ensures ∙ value)
