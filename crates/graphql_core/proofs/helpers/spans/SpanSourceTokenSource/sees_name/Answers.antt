use Rattle.std.proofs.Common.{[], ◌∷◌, ap, ◌∙◌}
use Rattle.graphql_core.specs.{AnyOf, is_name_start, kind_number, last_at, sees, sees_class}
use Rattle.graphql_core.specs.declared.tokenizer.token.Kind.TheVariants.{Name}
use Rattle.graphql_core.proofs.{lexemes_left, next_seen}
use Rattle.graphql_core.proofs.lexical.FirstBytes as fronts
use Rattle.graphql_core.proofs.helpers.spans.SpanSourceTokenSource.sees_name.Goals as goal

pub returns : goal.returns
returns g c =
    let s = c.self.inside in
    let number = g.W.Width.number in
    let class = AnyOf (kind_number Name) in
    c.is_name_start.ensures ∙ ap is_name_start c.self.invariant.1
    ∙ fronts.sees_name _ (lexemes_left number s.text.now s.spans.tokens.items s.taken c.self.invariant.0)
    ∙ ap (sees (class ∷ [])) (next_seen number s.text.now s.spans.tokens.items s.taken (last_at s.spans.end s.spans.bad))
    ∙ ap (sees_class class) c.self.view_is
