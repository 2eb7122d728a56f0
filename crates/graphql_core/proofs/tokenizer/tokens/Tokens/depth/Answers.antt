use Rattle.std.proofs.Common.{◌≡◌, ℕ, ◌<◌, ◌^◌, arith, sym, ap, ◌∙◌, pos, ◌-ℤ◌, to_z, of_z, w64, ◌-◌, length}
use Rattle.std.proofs.lemmas.Int.{ints}
use Rattle.graphql_core.specs.{Where, depth_of}
use Rattle.graphql_core.proofs.{next_place_items}
use Rattle.graphql_core.proofs.tokenizer.tokens.Tokens.depth.Goals as goal

signed : (a b : ℕ) → a < 2 ^ 62 → b < 2 ^ 62 → to_z w64 (of_z w64 (to_z w64 a -ℤ to_z w64 b)) ≡ pos a -ℤ pos b
signed a b h k = omega (arith, ints)

pub returns : goal.returns
returns c =
    let s = c.self.inside in
    let w : Where = record { position = s.position; offset = s.size - length s.rest.now; openers = s.brackets.openers; closers = s.brackets.closers } in
    let less = signed s.brackets.openers s.brackets.closers (omega arith) (omega arith) in
    rw (← c.self.view_is) (less ∙ ap depth_of (sym (next_place_items w s.rest.now c.self.invariant.5)))
