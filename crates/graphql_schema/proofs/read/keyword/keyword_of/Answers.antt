use Rattle.std.proofs.Common.{sym, ◌∙◌}
use Rattle.graphql_core.specs.{lexeme_token}
use Rattle.graphql_schema.proofs.{no_word}
use Rattle.graphql_schema.proofs.read.keyword.keyword_of.Goals as goal

-- no keyword has this spelling
pub returns-in_default : goal.returns-in_default
returns-in_default g c =
    let n = c.in_default in
    let text = c.as_str.ensures in
    no_word (lexeme_token g.S.TokenSource.bytes c.args.token.now)
    (λ e. n.not-schema (text ∙ sym e)) (λ e. n.not-scalar (text ∙ sym e)) (λ e. n.not-type (text ∙ sym e)) (λ e. n.not-interface (text ∙ sym e))
    (λ e. n.not-union (text ∙ sym e)) (λ e. n.not-enum (text ∙ sym e)) (λ e. n.not-input (text ∙ sym e)) (λ e. n.not-directive (text ∙ sym e))
