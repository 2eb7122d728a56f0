use Rattle.graphql_core.proofs.{has_spaced_tokens, spaced_items, one_minified, minified_again}
use Rattle.graphql_core.proofs.helpers.minify.spaced_tokens_are_tokenized.Goals as goal

pub returns-clause-any : goal.returns-clause-any
returns-clause-any c = has_spaced_tokens

pub returns-clause-of_a_text : goal.returns-clause-of_a_text
returns-clause-of_a_text c = spaced_items

pub returns-clause-one : goal.returns-clause-one
returns-clause-one c = one_minified

pub returns-clause-again : goal.returns-clause-again
returns-clause-again c = minified_again
