use Rattle.std.proofs.Common.{ap, arith, length, length-append}
use Rattle.graphql_c.proofs.{longest_front}
use Rattle.graphql_c.proofs.calls.valid_front.Goals as goal

pub returns-in-Ok-clause-longest : goal.returns-in-Ok-clause-longest
returns-in-Ok-clause-longest c front more same utf8 =
    omega (arith, ap length same, length-append front more, ap length c.in-Ok.ensures.cases.0)

pub returns-in-Err-clause-longest : goal.returns-in-Err-clause-longest
returns-in-Err-clause-longest c front more same utf8 =
    let long = longest_front c.args.bytes.now _ c.in-Err.ensures.cases.1 front more same utf8 in
    omega (arith, long, c.valid_up_to.ensures, c.split_at.ensures.by_index.1, ap length c.from_utf8_unchecked.ensures)
