use Rattle.graphql_core.proofs.{none_goes_on, valueless_not}
use Rattle.graphql_query.specs.{queries, one_definition}
use Rattle.graphql_query.proofs.{readable, readable_one}
use Rattle.graphql_query.proofs.laws.none_goes_on_with_an_unexpected_item.Goals as goal

pub returns : goal.returns
returns c = record {
  documents = none_goes_on queries readable (λ c t k. valueless_not t k) (λ node f h. absurd h);
  definitions = none_goes_on one_definition readable_one (λ c t k. valueless_not t k) (λ node f h. absurd h);
}
