use Rattle.std.proofs.Common.{sym}
use Rattle.graphql_core.proofs.{past_line}
use Rattle.graphql_core.proofs.tokenizer.place.position_in_line.Goals as goal

pub returns-clause-is : goal.returns-clause-is
returns-clause-is c = rw c.character_count.ensures.is (sym (past_line c.args.part.now c.args.at c.utf8.part c.requires.line))
