use Rattle.graphql_core.proofs.{has_unquoted, in_range, whole_exponent}
use Rattle.graphql_core.proofs.common.read.leaf_laws.values_of_leaves.Goals as goal

pub returns : goal.returns
returns c = record {
  string = has_unquoted;
  float = whole_exponent;
  integer = λ run h. in_range run;
}
