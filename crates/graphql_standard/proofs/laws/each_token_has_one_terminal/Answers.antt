use Rattle.graphql_standard.proofs.ApartTerminals.{one_terminal}
use Rattle.graphql_standard.proofs.laws.each_token_has_one_terminal.Goals as goal

pub returns : goal.returns
returns c = one_terminal
