use Rattle.std.proofs.Common.{Ok, Some, arith}
use Rattle.graphql_core.proofs.{later_lexemes, moved_lexemes}
use Rattle.graphql_core.proofs.helpers.cursor.CursorTokenSource.advance.Goals as goal

pub invariant_of-self : goal.invariant_of-self
invariant_of-self g c =
    let s = c.self.inside in
    rw c.in-Token.is (
      later_lexemes s.first_cuts s.stream c.fast_token.new.self _ _ s.token _ (Ok (Some c.in-Some.token)) c.self.invariant.0
          c.in-Token.is c.in-Some.ensures.item c.in-Some.ensures.cuts c.position-self-inside.ensures,
      c.first_byte-self-inside.ensures,
      omega (arith, c.in-Some.ensures.cuts, c.self.invariant.2),
      omega (arith, c.in-Some.ensures.cuts),
    )

pub invariant_of-self-in-None : goal.invariant_of-self-in-None
invariant_of-self-in-None g c =
    let known = rw c.in-Token.is at c.self.invariant in
    rw (c.fast_token.ensures.stays c.in-None.is, c.in-Token.is) (moved_lexemes _ _ c.self.inside.token _ known.0, known.1, known.2, known.3)
