use Rattle.graphql_standard.proofs.Places.{after_none, after_some}
use Rattle.graphql_standard.proofs.place.after_last.Goals as goal

pub returns-in-Some : goal.returns-in-Some
returns-in-Some c =
    after_some c.args.character c.args.text.now (c.in-Some.field-0-0, c.in-Some.rest)
    (rw c.in-Some.is at c.rsplit_once.ensures.cases) c.requires

pub returns-in-None : goal.returns-in-None
returns-in-None c =
    after_none c.args.character c.args.text.now (rw c.in-None.is at c.rsplit_once.ensures.cases) c.requires
