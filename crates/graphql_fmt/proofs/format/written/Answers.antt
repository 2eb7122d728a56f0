use Rattle.graphql_fmt.proofs.Keeping.{written}
use Rattle.graphql_fmt.proofs.format.written.Goals as goal

pub returns : goal.returns
returns c = written c.joined.result c.args.pieces.now c.joined.ensures
