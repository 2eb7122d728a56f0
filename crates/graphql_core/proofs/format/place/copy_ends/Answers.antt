use Rattle.std.proofs.Common.{◌-◌, rules, length}
use Rattle.std.proofs.lemmas.List.{take_rest}
use Rattle.graphql_core.proofs.{Placed-ends}
use Rattle.graphql_core.proofs.format.place.copy_ends.Goals as goal

pub returns : goal.returns
returns g c =
    let text = c.args.text.now in
    Placed-ends text g.row.N (search rules) c.requires.covers.0 c.requires.covers.1 c.copy_front.ensures
    (rw (take_rest text (length text - g.row.N)) at c.copy_front-2.ensures)
