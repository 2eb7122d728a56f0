use Rattle.std.proofs.Common.{[], ◌∷◌, ap, ◌∙◌}
use Rattle.graphql_core.specs.{last_at, sees, sees_class, class_of}
use Rattle.graphql_core.proofs.{lexemes_left, next_seen}
use Rattle.graphql_core.proofs.lexical.FirstBytes as fronts
use Rattle.graphql_core.proofs.helpers.spans.SpanSourceTokenSource.sees_punctuator.Goals as goal

pub returns : goal.returns
returns g c =
    let s = c.self.inside in
    let number = g.W.Width.number in
    let class = class_of c.args.punctuator in
    rw (c.first_byte.ensures, c.self.invariant.1)
    (fronts.sees_punctuator c.args.punctuator _ (lexemes_left number s.text.now s.spans.tokens.items s.taken c.self.invariant.0))
    ∙ ap (sees (class ∷ [])) (next_seen number s.text.now s.spans.tokens.items s.taken (last_at s.spans.end s.spans.bad))
    ∙ ap (sees_class class) c.self.view_is
