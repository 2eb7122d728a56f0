use Rattle.graphql_c.proofs.{located, found_or_out}
use Rattle.graphql_c.proofs.graphql_proved_first_definition_nonnull.Goals as goal

pub returns-clause-returned : goal.returns-clause-returned
returns-clause-returned c = located _ c.first_end.ensures.sound c.of_offset.ensures

pub returns-clause-shown : goal.returns-clause-shown
returns-clause-shown c n short shown = found_or_out _ _ c.first_end.result (c.first_end.ensures.shown n short shown) c.of_offset.ensures
