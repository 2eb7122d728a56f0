use Rattle.graphql_core.specs.{items, start}
use Rattle.graphql_core.proofs.{has_items, items_unique, end_once}
use Rattle.graphql_core.proofs.tokenizer.laws.one_list_of_items.Goals as goal

pub returns-clause-some : goal.returns-clause-some
returns-clause-some c text = (items start text, has_items text)

pub returns-clause-one : goal.returns-clause-one
returns-clause-one c = items_unique

pub returns-clause-last : goal.returns-clause-last
returns-clause-last c = end_once
