use Rattle.std.proofs.Common.{arith}
use Rattle.graphql_core.specs.{directives_view}
use Rattle.graphql_query.proofs.{no_directives}
use Rattle.graphql_query.proofs.print.levels.levels_in_counted_directives.Goals as goal

pub returns-then-not-this : goal.returns-then-not-this
returns-then-not-this g c = rw c.if-not-this.true (omega (arith, no_directives (directives_view g.N.Names.bytes c.args.directives.now)))
