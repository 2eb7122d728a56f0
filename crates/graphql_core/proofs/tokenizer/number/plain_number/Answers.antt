use Rattle.std.proofs.lemmas.List.{take_rest}
use Rattle.graphql_core.proofs.{whole_number, number_with_fraction}
use Rattle.graphql_core.proofs.tokenizer.number.plain_number.Goals as goal

pub returns-then-ends_run-clause-is : goal.returns-then-ends_run-clause-is
returns-then-ends_run-clause-is c =
    let whole = c.in_ok-whole.whole in
    whole_number c.args.bytes.now _ whole c.in_ok-whole.ensures.within c.in_ok-whole.ensures.is (take_rest c.args.bytes.now whole)
    (c.ends_run.ensures c.if-ends_run.true)

pub returns-then-ends_run-2-clause-is : goal.returns-then-ends_run-2-clause-is
returns-then-ends_run-2-clause-is c =
    let whole = c.in_ok-whole.whole in
    let fraction = c.in_ok-fraction.fraction in
    number_with_fraction c.args.bytes.now _ _ whole fraction c.in_ok-whole.ensures.within c.in_ok-fraction.ensures.within c.in_ok-whole.ensures.is
    (take_rest c.args.bytes.now whole) c.in_ok-fraction.ensures.is (take_rest _ fraction) (c.ends_run-2.ensures c.if-ends_run-2.true)
