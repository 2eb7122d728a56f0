use Rattle.graphql_standard.proofs.Places.{last_line}
use Rattle.graphql_standard.proofs.place.last_line.Goals as goal

pub returns : goal.returns
returns c = last_line c.args.text.now _ _ c.after_last.ensures c.after_last-2.ensures
