use Rattle.graphql_core.proofs.{each_is_factored, IsFactored-unchanged, IsFactored-head, IsFactored-second, IsFactored-prefix, IsFactored-symbols}
use Rattle.graphql_core.proofs.common.grammar.factored_rules.Goals as goal

pub returns : goal.returns
returns c = record {
  each = each_is_factored;
  same = IsFactored-unchanged;
  head = IsFactored-head;
  second = IsFactored-second;
  prefix = IsFactored-prefix;
  symbols = IsFactored-symbols;
}
