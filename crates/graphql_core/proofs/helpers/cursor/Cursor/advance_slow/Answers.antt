use Rattle.std.proofs.Common.{sym, ap, ◌∙◌, arith}
use Rattle.graphql_core.specs.{Items, IsLexeme, front_byte}
use Rattle.std.proofs.lemmas.List.Elements.{All-same}
use Rattle.graphql_core.proofs.{later_lexemes}
use Rattle.graphql_core.proofs.helpers.cursor.Cursor.advance_slow.Goals as goal

pub invariant_of-self : goal.invariant_of-self
invariant_of-self g c =
    let s = c.self.inside in
    let others = c.next_token.new.self in
    let same = c.kept_of.ensures.items s.first_cuts c.position-position.result others in (
      All-same IsLexeme _ _ (ap (λ (i : Items). i.tokens) same)
          (later_lexemes s.first_cuts s.stream others _ _ s.token _ _ c.self.invariant.0 c.in-Token.is
          c.next_token.ensures.item c.next_token.ensures.cuts c.position-position.ensures),
      c.first_byte-self-inside.ensures ∙ c.kept_of.ensures.front s.first_cuts _ others ∙ ap (λ (i : Items). front_byte i.tokens) (sym same),
      omega (arith, c.next_token.ensures.cuts, c.self.invariant.2),
      omega (arith, c.next_token.ensures.cuts),
    )
