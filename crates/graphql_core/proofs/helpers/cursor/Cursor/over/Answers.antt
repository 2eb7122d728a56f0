use Rattle.std.proofs.Common.{sym, ap, ◌∙◌, arith}
use Rattle.graphql_core.specs.{Items, IsLexeme, front_byte}
use Rattle.std.proofs.lemmas.List.Elements.{All-same}
use Rattle.graphql_core.proofs.{held_stream, rest_lexemes}
use Rattle.graphql_core.proofs.helpers.cursor.Cursor.over.Goals as goal

pub invariant_of-result : goal.invariant_of-result
invariant_of-result g c =
    let cuts = c.cuts-first_cuts.result in
    let others = c.next_token.new.self in
    let same = c.kept_of.ensures.items cuts c.position-position.result others in
    let whole = held_stream cuts c.args.stream others _ _ c.next_token.ensures.item c.next_token.ensures.cuts c.position-position.ensures in (
      All-same IsLexeme _ _ (ap (λ (i : Items). i.tokens) (same ∙ whole)) (rest_lexemes _ _ c.rest.ensures),
      c.first_byte.ensures ∙ c.kept_of.ensures.front cuts _ others ∙ ap (λ (i : Items). front_byte i.tokens) (sym same),
      omega (arith, c.next_token.ensures.cuts, c.cuts-first_cuts.ensures),
      omega (arith, c.next_token.ensures.cuts, c.cuts-first_cuts.ensures),
    )
