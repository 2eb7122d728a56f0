use Rattle.graphql_core.proofs.{grammar_exact, reads_alike, grammar_whole}
use Rattle.graphql_core.proofs.common.grammar.reading.Goals as goal

pub returns : goal.returns
returns c = record { exact = grammar_exact; alike = reads_alike; whole = λ g ok full e d f. grammar_whole g e (grammar_exact g ok full e d f) }
