use Rattle.std.proofs.Common.{refl, ◌∙◌}
use Rattle.graphql_core.specs.{Leaf, without_ends}
use Rattle.graphql_core.specs.declared.tokenizer.token.Kind.TheVariants.{StringValue}
use Rattle.graphql_core.proofs.{some_unquoted, none_unquoted, string_means, not_shown, next_spelled, next_taken, next_rejected}
use Rattle.graphql_core.proofs.common.read.leaf.string_value.Goals as goal

pub returns-in_err-token : goal.returns-in_err-token
returns-in_err-token g c = not_shown g.S.TokenSource.bytes StringValue _ _ _ c.in_err-token.field-0.0 c.in_err-token.ensures
    c.from_residual.ensures.1

pub returns-in-Ok : goal.returns-in-Ok
returns-in-Ok g c =
    let t = c.in_ok-token.token in
    let n = c.in_ok-token.ensures in
    let spelled = next_spelled g.S.TokenSource.bytes StringValue (g.S.TokenSource.items c.args.source.now) t n in
    let value = c.in-Ok.ensures.value (without_ends 1 (g.S.TokenSource.bytes t.text)) (c.as_str.ensures ∙ spelled) in (
      Leaf _,
      next_taken g.S.TokenSource.bytes StringValue _ t n _ (some_unquoted _ _ value) c.advance.ensures,
      string_means (g.S.TokenSource.bytes t.text) _ value,
    )

pub returns-in-Err-BadEscape : goal.returns-in-Err-BadEscape
returns-in-Err-BadEscape g c =
    let t = c.in_ok-token.token in
    let n = c.in_ok-token.ensures in
    let spelled = next_spelled g.S.TokenSource.bytes StringValue (g.S.TokenSource.items c.args.source.now) t n in
    let none = rw c.in-Err-BadEscape.field-0-is at c.in-Err-BadEscape.ensures.bad_escape in
    next_rejected g.S.TokenSource.bytes StringValue (g.S.TokenSource.items c.args.source.now) t n
    (none_unquoted _ (none (without_ends 1 (g.S.TokenSource.bytes t.text)) (c.as_str.ensures ∙ spelled) refl))
