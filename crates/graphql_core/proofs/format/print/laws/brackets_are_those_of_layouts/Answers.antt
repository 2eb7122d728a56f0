use Rattle.graphql_core.proofs.{deepest_is, value_rises, type_rises, directive_rises}
use Rattle.graphql_core.proofs.format.print.laws.brackets_are_those_of_layouts.Goals as goal

pub returns : goal.returns
returns c = record {
  values = λ style margin v. deepest_is (value_rises style margin v);
  types = λ t. deepest_is (type_rises t);
  directives = λ style margin d. deepest_is (directive_rises style margin d);
}
