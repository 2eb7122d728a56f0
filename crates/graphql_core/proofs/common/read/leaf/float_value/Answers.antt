use Rattle.std.proofs.Common.{◌∙◌}
use Rattle.graphql_core.specs.{Leaf}
use Rattle.graphql_core.specs.declared.tokenizer.token.Kind.TheVariants.{FloatValue}
use Rattle.graphql_core.proofs.{literal_taken, literal_rejected, not_shown, next_spelled, next_taken, next_rejected}
use Rattle.graphql_core.proofs.common.read.leaf.float_value.Goals as goal

pub returns-in_err-token : goal.returns-in_err-token
returns-in_err-token g c = not_shown g.S.TokenSource.bytes FloatValue _ _ _ c.in_err-token.field-0.0 c.in_err-token.ensures
    c.from_residual.ensures.1

pub returns-in_default : goal.returns-in_default
returns-in_default g c =
    let t = c.in_ok-token.token in
    let n = c.in_ok-token.ensures in
    let spelled = next_spelled g.S.TokenSource.bytes FloatValue (g.S.TokenSource.items c.args.source.now) t n in
    next_rejected g.S.TokenSource.bytes FloatValue (g.S.TokenSource.items c.args.source.now) t n
    (literal_rejected _ (g.S.TokenSource.bytes t.text) (c.in_ok-text.ensures.ok ∙ c.as_str.ensures) spelled c.in_default.ensures.accepted)

pub returns : goal.returns
returns g c =
    let t = c.in_ok-token.token in
    let n = c.in_ok-token.ensures in
    let spelled = next_spelled g.S.TokenSource.bytes FloatValue (g.S.TokenSource.items c.args.source.now) t n in
    let same = c.in_ok-text.ensures.ok ∙ c.as_str.ensures in
    let (literal, value) = c.in-Ok.ensures.accepted in (
      Leaf _,
      next_taken g.S.TokenSource.bytes FloatValue _ t n _ (literal_taken _ (g.S.TokenSource.bytes t.text) same spelled literal) c.advance.ensures,
      value ∙ same,
    )
