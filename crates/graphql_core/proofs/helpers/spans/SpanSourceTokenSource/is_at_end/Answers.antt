use Rattle.std.proofs.Common.{sym, ap, ◌∙◌}
use Rattle.std.proofs.lemmas.Bool.{eqb-true}
use Rattle.graphql_core.specs.{Items}
use Rattle.graphql_core.proofs.{all_taken}
use Rattle.graphql_core.proofs.helpers.spans.SpanSourceTokenSource.is_at_end.Goals as goal

pub returns-else-self-len : goal.returns-else-self-len
returns-else-self-len g c =
    let s = c.self.inside in (
      λ full. absurd (c.if-self-len.false (eqb-true _ _ full)),
      λ ended.
          let none = ap (λ (i : Items). i.tokens) c.self.view_is ∙ ended.0 in
          let all = all_taken g.W.Width.number s.text.now s.spans.tokens.items s.taken _ _ s.spans.tokens.ok.0 c.self.invariant.2 none in
          absurd (c.if-self-len.false (all ∙ sym c.len.ensures)),
    )
