use Rattle.std.proofs.Common.{[], ◌∷◌, ◌||◌, ◌==◌, ap, ◌∙◌}
use Rattle.graphql_core.specs.{AnyOf, kind_number, last_at, sees, sees_class}
use Rattle.graphql_core.specs.declared.tokenizer.token.Kind.TheVariants.{StringValue, BlockString}
use Rattle.graphql_core.proofs.{lexemes_left, next_seen}
use Rattle.graphql_core.proofs.lexical.FirstBytes as fronts
use Rattle.graphql_core.proofs.helpers.spans.SpanSourceTokenSource.sees_string.Goals as goal

pub returns : goal.returns
returns g c =
    let s = c.self.inside in
    let number = g.W.Width.number in
    let string = AnyOf (kind_number StringValue) in
    let block = AnyOf (kind_number BlockString) in
    ap (λ b. b == 34) c.self.invariant.1
    ∙ fronts.sees_string _ (lexemes_left number s.text.now s.spans.tokens.items s.taken c.self.invariant.0)
    ∙ ap (λ p. sees (string ∷ []) p || sees (block ∷ []) p)
    (next_seen number s.text.now s.spans.tokens.items s.taken (last_at s.spans.end s.spans.bad))
    ∙ ap (λ i. sees_class string i || sees_class block i) c.self.view_is
