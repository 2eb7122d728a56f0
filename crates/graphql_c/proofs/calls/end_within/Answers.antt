use Rattle.std.proofs.Common.{◌<◌, ◌≡◌, ◌∙◌, length, drop, Some, ap, arith}
use Rattle.std.proofs.lemmas.Bool.Decides.{nat_tests}
use Rattle.graphql_core.specs.{ParseFailure}
use Rattle.graphql_c.proofs.{ends_once, cause_is_out_of_memory, rest_at, still_at}
use Rattle.graphql_c.proofs.calls.end_within.Goals as goal

pub returns-in-Ok-clause-complete : goal.returns-in-Ok-clause-complete
returns-in-Ok-clause-complete c n short at some =
    let none : length c.in-Ok.rest.now ≡ 0 = let empty = c.if-is_empty.ensures in grind (arith, nat_tests) in
    let same = ends_once c.args.front.now _ n (rest_at c.args.front.now c.in-Ok.rest.now _ c.in-Ok.ensures.first) at in
    absurd (omega (arith, none, same, some))

pub returns-in-Ok-2-clause-sound : goal.returns-in-Ok-2-clause-sound
returns-in-Ok-2-clause-sound c more =
    let some : 0 < length c.in-Ok.rest.now = let full = c.if-is_empty.ensures in grind (arith, nat_tests) in
    still_at c.args.front.now c.in-Ok.rest.now more _ c.in-Ok.ensures.first some c.utf8.front

pub returns-in-Ok-2-clause-complete : goal.returns-in-Ok-2-clause-complete
returns-in-Ok-2-clause-complete c n short at some =
    ap Some (ends_once c.args.front.now _ n (rest_at c.args.front.now c.in-Ok.rest.now _ c.in-Ok.ensures.first) at)

pub returns : goal.returns
returns c = record {
  sound = tt;
  complete = λ n short at some.
      let none = c.in-Err.ensures.complete (at.1, drop n c.args.front.now) short at.2 in
      absurd (c.in_default.not-OutOfMemory (cause_is_out_of_memory _ (c.cause.ensures ∙ ap (λ (e : ParseFailure). e.cause) none)));
}
