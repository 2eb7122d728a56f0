use Rattle.graphql_core.proofs.{exact_for, whole_for}
use Rattle.graphql_core.proofs.common.grammar.factored.Goals as goal

pub returns : goal.returns
returns c = record { exact = exact_for; whole = whole_for }
