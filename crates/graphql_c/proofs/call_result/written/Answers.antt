use Rattle.std.proofs.Common.{rules, ◌≡◌, length, nat_le, true, false, refl}
use Rattle.std.proofs.lemmas.Bool.{leb-true, leb-false}
use Rattle.graphql_c.specs.{written, too_short}
use Rattle.graphql_c.proofs.call_result.written.Goals as goal

pub returns-then-put : goal.returns-then-put
returns-then-put c =
    let fits : nat_le (length c.args.output.now) (length c.args.out.now) ≡ true = search rules in
    written c.args.output.now refl (leb-true _ _ fits) (search rules) c.for_output.ensures

pub returns-else-put : goal.returns-else-put
returns-else-put c =
    let fits : nat_le (length c.args.output.now) (length c.args.out.now) ≡ false = search rules in
    too_short c.args.output.now refl (leb-false _ _ fits) (search rules) c.for_output-else-put.ensures
