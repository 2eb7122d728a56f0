use Rattle.std.proofs.Common.{length}
use Rattle.graphql_parser.proofs.tests.streams.count_leading_definitions.Given as goal

-- the rest of a text is shorter
abbrev pub decreases-definitions : goal.decreases-definitions
decreases-definitions l = length l.rest
