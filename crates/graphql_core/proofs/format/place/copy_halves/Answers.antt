use Rattle.std.proofs.Common.{◌+◌, ◌-◌, ◌*◌, ◌/◌, ◌≤◌, length, arith, take_all}
use Rattle.std.proofs.lemmas.List.{take_rest}
use Rattle.graphql_core.proofs.{Placed-on, Placed-part}
use Rattle.graphql_core.proofs.format.place.copy_halves.Goals as goal

pub returns : goal.returns
returns c =
    let text = c.args.text.now in
    let at = c.args.at in
    let capacity = length c.args.buffer.now - at in
    let last = length text - 4 in
    let step = (length text - 1) / 8 * 4 in
    let few : step ≤ 4 = omega (arith, c.requires.covers.1) in
    let fits : step + 4 ≤ length text = omega (arith, c.requires.covers.0) in
    let covers : last - step ≤ step + 4 = omega (arith, c.requires.covers.1) in
    let two = Placed-on text 4 step 4 (omega arith) few c.requires.covers.0 c.copy_front.ensures (rw (take_rest text step) at c.copy_front-2.ensures) (omega arith) in
    let three = Placed-on text (step + 4) (last - step) 4 (omega arith) covers fits two (rw (take_rest text (last - step)) at c.copy_front-3.ensures) (omega arith) in
    let four = Placed-on text (last - step + 4) last 4 (omega arith) (omega (arith, few, fits)) (omega (arith, fits)) three
    (rw (take_rest text last) at c.copy_front-4.ensures) (omega arith) in
    Placed-part at capacity (omega (arith, c.requires.fits)) (rw (take_all (last + 4) text (omega (arith, c.requires.covers.0))) at four)
