use Rattle.graphql_standard.proofs.lexical.Divisions.{some_division}
use Rattle.graphql_standard.proofs.lexical.Following.{one_standard_division, one_either_division}
use Rattle.graphql_standard.proofs.tokenizer.laws.one_division.Goals as goal

pub returns : goal.returns
returns c = record { some = some_division; standard = one_standard_division; either = one_either_division }
