use Rattle.graphql_core.proofs.{grammar_least, least_for}
use Rattle.graphql_core.proofs.common.grammar.least.Goals as goal

pub returns : goal.returns
returns c = record { read = λ g ok tight full tokens e d f. grammar_least g ok full tight e d f tokens; written = least_for }
