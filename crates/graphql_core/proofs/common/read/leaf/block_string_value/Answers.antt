use Rattle.std.proofs.Common.{refl, ◌∙◌}
use Rattle.graphql_core.specs.{Leaf, without_ends}
use Rattle.graphql_core.specs.declared.tokenizer.token.Kind.TheVariants.{BlockString}
use Rattle.graphql_core.proofs.{not_shown, next_spelled, next_taken}
use Rattle.graphql_core.proofs.common.read.leaf.block_string_value.Goals as goal

pub returns-in_err-token : goal.returns-in_err-token
returns-in_err-token g c = not_shown g.S.TokenSource.bytes BlockString _ _ _ c.in_err-token.field-0.0 c.in_err-token.ensures
    c.from_residual.ensures.1

pub unquote_block_string-requires : goal.unquote_block_string-requires
unquote_block_string-requires g c =
    let t = c.in_ok-token.token in
    let n = c.in_ok-token.ensures in
    let spelled = next_spelled g.S.TokenSource.bytes BlockString (g.S.TokenSource.items c.args.source.now) t n in
    (without_ends 3 (g.S.TokenSource.bytes t.text), c.as_str.ensures ∙ spelled)

pub returns : goal.returns
returns g c =
    let t = c.in_ok-token.token in
    let n = c.in_ok-token.ensures in
    let spelled = next_spelled g.S.TokenSource.bytes BlockString (g.S.TokenSource.items c.args.source.now) t n in
    let value = c.in_ok-value.ensures (without_ends 3 (g.S.TokenSource.bytes t.text)) (c.as_str.ensures ∙ spelled) in
    (Leaf _, next_taken g.S.TokenSource.bytes BlockString _ t n _ refl c.advance.ensures, value)
