use Rattle.std.proofs.Common.{◌∙◌, length, take-take, length-take-le, arith}
use Rattle.graphql_core.proofs.{Placed-less}
use Rattle.graphql_core.proofs.format.place.copy_prefix.Goals as goal

pub returns : goal.returns
returns c =
    let text = c.args.text.now in
    let from = c.args.from.now in
    let is = take-take (length text) 16 from (omega arith) ∙ c.requires.begins in
    rw is at (Placed-less (length text) (omega arith) (omega (arith, length-take-le 16 from (omega arith))) c.copy_front.ensures)
