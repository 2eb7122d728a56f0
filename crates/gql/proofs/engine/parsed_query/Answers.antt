use Rattle.std.proofs.Common.{arith}
use Rattle.graphql_query.proofs.readers.Readable.{readable}
use Rattle.gql.proofs.{parsed_whole}
use Rattle.gql.proofs.engine.parsed_query.Goals as goal

pub returns : goal.returns
returns c = record { parses = parsed_whole readable (omega arith) c.new-stream.ensures.only c.parse_query_from.ensures.parses }
